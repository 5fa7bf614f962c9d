-- `text::writing::store` meets its contract: the part that was copied to is the bytes. Assumes nothing.
use Rattle.std.proofs.Common.{◌≡◌, ◌≤◌, ◌+◌, ◌-◌, ℕ, List, length, arith, append_assoc}
use Rattle.std.proofs.lemmas.List.Edits.{sets, sets-eq}
use Rattle.std.proofs.Math.Seq.{drop-drop}
use borrow.Rule.Slice.PartMut.{put_mid}
use Rattle.text.proofs.writing.store.Goals as goal

put_mid-sets : (at : ℕ) (s out now : List ℕ) → at + length s ≤ length out → now ≡ s
    → put_mid at (at + length s - at) out now ≡ sets out at s
put_mid-sets at s out now h e =
    let k : at + length s - at ≡ length s = omega arith in
    rw (sets-eq s out at h, e, k, drop-drop, append_assoc)

pub returns : goal.returns
returns c = put_mid-sets _ _ _ _ c.requires c.copy_from_slice.ensures.after
