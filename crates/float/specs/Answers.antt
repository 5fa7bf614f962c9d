-- Any two answers that the promise of a public function allows are equal. Assumes nothing.
use Rattle.std.specs.Prelude.{◌≡◌, Bool, ℕ, Float}
use Rattle.std.proofs.Common.{sym, ap, ◌∙◌}
use Rattle.std.specs.Float.{binary64}
use Rattle.std.specs.Float.Ieee.{of_bits, to_bits}
use Rattle.std.specs.Float.Ieee.Scale.{finite}
use Rattle.method.specs.Floats.{magnitude, sign_of, negative, smaller, larger}
use Rattle.method.specs.Root.{square_root}
use Rattle.method.specs.Root.Paper as Paper
use Rattle.method.specs.Root.Paper.{rounded, halved, page}
use Rattle.float.specs.Values.{line_in, start_in}
use Rattle.float.specs.declared.paper.Line.{Line}
use Rattle.float.specs.declared.paper.Start.{Start}

-- any two answers of which `Promise` holds are equal
abbrev pub OneAnswer : {A : Type 0} → (A → Type 0) → Type 0
OneAnswer {A} Promise = (r r' : A) → Promise r → Promise r' → r ≡ r'

-- so it is where the promise equates the answer with a value
pub equated_one : {A : Type 0} (value : A) → OneAnswer (λ (r : A). r ≡ value)
equated_one value r r' e e' = e ∙ sym e'

-- a line of the page, and what a page starts with, are known from the method's
line-back : (l l' : Line) → line_in l ≡ line_in l' → l ≡ l'
line-back l l' e = ap (λ (k : Paper.Line). record { remainder = k.remainder; trial = k.trial; root = k.root; bit = k.bit }) e

start_back : (s s' : Start) → start_in s ≡ start_in s' → s ≡ s'
start_back s s' e = ap (λ (k : Paper.Start). record { number = k.number; power = k.power }) e

pub magnitude-one : (x : Float) → OneAnswer (λ (r : Float). r ≡ magnitude x)
magnitude-one x = equated_one (magnitude x)

pub sign_one : (x : Float) → OneAnswer (λ (r : Float). r ≡ sign_of x)
sign_one x = equated_one (sign_of x)

pub negative-one : (x : Float) → OneAnswer (λ (r : Bool). r ≡ negative x)
negative-one x = equated_one (negative x)

pub finite_one : (x : Float) → OneAnswer (λ (r : Bool). r ≡ finite x)
finite_one x = equated_one (finite x)

pub smaller-one : (x y : Float) → OneAnswer (λ (r : Float). r ≡ smaller x y)
smaller-one x y = equated_one (smaller x y)

pub larger-one : (x y : Float) → OneAnswer (λ (r : Float). r ≡ larger x y)
larger-one x y = equated_one (larger x y)

pub square_root-one : (x : Float) → OneAnswer (λ (r : Float). r ≡ square_root binary64 x)
square_root-one x = equated_one (square_root binary64 x)

pub page-one : (x : Float) (many : ℕ) → OneAnswer (λ (r : Line). line_in r ≡ page binary64 x many)
page-one x many r r' e e' = line-back r r' (e ∙ sym e')

pub halved-one : (x : Float) → OneAnswer (λ (r : Start). start_in r ≡ halved binary64 x)
halved-one x r r' e e' = start_back r r' (e ∙ sym e')

pub rounded-one : (root : ℕ) → OneAnswer (λ (r : ℕ). r ≡ rounded root)
rounded-one root = equated_one (rounded root)

pub from_bits_one : (p : ℕ) → OneAnswer (λ (r : Float). r ≡ of_bits binary64 p)
from_bits_one p = equated_one (of_bits binary64 p)

pub to_bits_one : (x : Float) → OneAnswer (λ (r : ℕ). r ≡ to_bits binary64 x)
to_bits_one x = equated_one (to_bits binary64 x)
