-- Signs (document 005): two columns turned as the Rust's `apply_gt_right` does it, which calls `apply_g_right` with the
-- sine negated. Definitions only.
use Rattle.std.specs.Prelude.{List, ℕ, ◌+◌, ◌*◌, get_or, set, Float}
use Rattle.std.specs.Float.{nan, Format}
use Rattle.std.specs.Float.Ieee.{neg, add, sub, mul}
use Rattle.method.specs.Repeated.{repeated}
use Rattle.method.specs.Rotation.{Rotation}

-- ---- columns turned as the Rust has it

-- entries p and q turned as the Rust's apply_g_right has it, called with the sine negated: new p is c * p - (-s) * q,
-- new q is (-s) * p + c * q
unfoldable pub pair_turned_back : Format → Rotation → ℕ → ℕ → List Float → List Float
pair_turned_back f g p q a =
    set (set a p (sub f (mul f g.cosine (get_or a p nan)) (mul f (neg g.sine) (get_or a q nan)))) q
    (add f (mul f (neg g.sine) (get_or a p nan)) (mul f g.cosine (get_or a q nan)))

-- columns i and i + 1 so turned, in the n rows from j on
unfoldable pub columns_turned_back : Format → Rotation → ℕ → ℕ → ℕ → ℕ → List Float → List Float
columns_turned_back f g stride i j n a =
    repeated 0 n (λ k. pair_turned_back f g ((j + k) * stride + i) ((j + k) * stride + (i + 1))) a
