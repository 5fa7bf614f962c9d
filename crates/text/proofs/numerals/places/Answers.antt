-- `text::numerals::places` meets its contract: the library's logarithm and one more, and one place for 0. Assumes nothing.
use Rattle.std.proofs.Common.{◌≡◌, ◌+◌, ◌*◌, ◌^◌, ◌<◌, ◌≤◌, ℕ, Option, Some, None, IfNone, IfSome, unwrap_or, arith}
use Rattle.text.specs.Text.{places_by}
use Rattle.text.proofs.WritingLaws.{places-end, places-power}
use Rattle.text.proofs.numerals.places.Goals as goal

counted : (n : ℕ) (r : Option ℕ) → IfNone r (n ≡ 0) → IfSome r (λ k. 10 ^ k ≤ n) → IfSome r (λ k. n < 10 * 10 ^ k)
    → unwrap_or r 0 + 1 ≡ places_by n n
counted n None e g h = omega (arith, places-end n (omega arith))
counted n (Some k) e g h = omega (arith, places-power k n g h)

pub returns : goal.returns
returns c =
    let h = c.checked_ilog10.ensures in
    rw c.unwrap_or.ensures (counted _ _ h.none h.power_le h.next_power_gt)
