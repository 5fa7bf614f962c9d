-- What a writer leaves in its slice and what it answers, where there is room and where there is none. Definitions only.
use Rattle.std.specs.Prelude.{◌≡◌, ℕ, ◌+◌, ◌<◌, ◌≤◌}
use Rattle.std.proofs.Math.ListN.{length}
use Rattle.text.specs.Text.{Bytes, Written}

-- ---- what a writer leaves

-- `out₁` has as many bytes as `out`. Where the bytes s have room in it from `at` on, they were stored and end at `end`;
-- where they have none, `end` is past the end. What a writer leaves is so, and so is one text after the other.
pub record Wrote (out : Bytes) (at : ℕ) (s : Bytes) (out₁ : Bytes) (end : ℕ) : Type 0 where
  pub kept : length out₁ ≡ length out
  pub fits : at + length s ≤ length out → Written out at s out₁ end
  pub past : length out < at + length s → length out < end
