-- What the hole with a width and zeros in front prints is the digits with zeros in front.
use Rattle.std.proofs.Common.{◌≡◌, ℕ, ◌-◌, ◌^◌, rules, false, List, [], arith}
use Rattle.std.proofs.lemmas.List.{append-nil}
use Rattle.console.specs.Padded.{zero_padded}
use Rattle.std.specs.Fmt.{padded_integral, format_spec, char_count}
use Rattle.console.proofs.print_hex.Goals as goal

padded-zeros : (width : ℕ) (text : List ℕ) → padded_integral (format_spec 32 0 4 width (2 ^ 64 - 1)) false [] text ≡ zero_padded width text
unfolding padded_integral char_count
padded-zeros width text = grind (rules, append-nil, arith)

pub returns : goal.returns
returns g c = search (rules, padded-zeros)
