-- Where the live corner's last 2 x 2 stands in the list: the positions that the drop helper of document 004 moves, and
-- what it is for them to be those of a range. Definitions only.
use Rattle.std.specs.Prelude.{◌≡◌, Bool, true, false, ℕ, zero, suc, ◌+◌, ◌-◌, ◌*◌, ◌≤◌}
use Rattle.method.specs.Work.{coupling_place}

-- the Rust's inter, e1, tl and bl
pub record Corner : Type 0 where
  pub inter : ℕ
  pub coupling : ℕ
  pub top_left : ℕ
  pub bottom_left : ℕ

-- the corner whose top left is entry (k, k), by row and column number
abbrev pub corner_at : Bool → ℕ → ℕ → Corner
corner_at upper stride k =
    record {
      inter = k;
      coupling = coupling_place upper stride k;
      top_left = k * stride + k;
      bottom_left = (k + 1) * stride + k;
    }

-- the corner of a range
unfoldable pub corner_of : Bool → ℕ → ℕ → Corner
corner_of upper stride range = corner_at upper stride (range - 2)

-- the corner as the Rust starts it over a diagonal of c entries, each subtraction stopping at 0
unfoldable pub corner_begun : Bool → ℕ → ℕ → Corner
corner_begun true stride c =
    record {
      inter = c - 2;
      coupling = c * stride - (stride + 1);
      top_left = c * stride - (stride + 2);
      bottom_left = c * stride - 2;
    }
corner_begun false stride c =
    record {
      inter = c - 2;
      coupling = c * stride + c - (stride + 2);
      top_left = c * stride + c - (2 + stride * 2);
      bottom_left = c * stride + c - (stride + 2);
    }

-- a drop: inter less 1, and the three positions less stride + 1, each stopping at 0. A sweep moves nothing.
unfoldable pub corner_dropped : ℕ → Corner → Corner
corner_dropped stride w =
    record {
      inter = w.inter - 1;
      coupling = w.coupling - (stride + 1);
      top_left = w.top_left - (stride + 1);
      bottom_left = w.bottom_left - (stride + 1);
    }

-- where the range is 2 or more, the corner is that of the range
pub record Placed (upper : Bool) (stride range : ℕ) (w : Corner) : Type 0 where
  pub placed : 2 ≤ range → w ≡ corner_of upper stride range

-- ---- a walk

-- the Rust's corner after n drops
unfoldable pub corner_after : Bool → ℕ → ℕ → ℕ → Corner
corner_after upper stride c zero = corner_begun upper stride c
corner_after upper stride c (suc n) = corner_dropped stride (corner_after upper stride c n)
