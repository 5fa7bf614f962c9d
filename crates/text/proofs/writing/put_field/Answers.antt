-- `text::writing::put_field` meets its contract: a space and the digits stored where there is room, and nothing where there is none.
-- Assumes nothing.
use mathlib.Core.Path.{sym, ap, ◌∙◌}
use Prim.Native.Nat.{◌+◌}
use native.Mathlib.Omega.{arith}
use Rattle.text.proofs.WritingLaws.{put_room, put_none, places-most, length-field, field_stored}
use Rattle.text.proofs.writing.put_field.Goals as goal

pub overflow_add-k : goal.overflow_add-k
overflow_add-k c = omega (arith, c.places-k.ensures, places-most 19 c.args.n (omega arith))

pub returns-then-room : goal.returns-then-room
returns-then-room c =
    let args = c.args in
    let e = ap (λ k. k + 1) c.places-k.ensures in
    let s = field_stored args.at _ args.n args.out.now _ e c.store_digits.ensures in
    put_room _ _ _ _ (length-field _ args.n e) _ s (sym c.room.ensures ∙ c.if-room.true)

pub returns-else-room : goal.returns-else-room
returns-else-room c =
    let e = ap (λ k. k + 1) c.places-k.ensures in
    put_none _ _ _ _ (length-field _ c.args.n e) (sym c.room.ensures ∙ c.if-room.false)
