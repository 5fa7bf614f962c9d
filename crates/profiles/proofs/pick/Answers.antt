-- `pick` meets its contract: there is no such profile, or the table of the code has the profile's settings. Assumes
-- nothing.
use mathlib.Core.Path.{sym, ◌∙◌}
use lib.Ieee.{of_bits, round, binary64}
use Rattle.method.proofs.Profiles.Table.{picked_none}
use Rattle.profiles.specs.Table.{entry}
use Rattle.profiles.proofs.pick.Goals as goal

pub returns-then-no_profile : goal.returns-then-no_profile
unfolding of_bits
returns-then-no_profile c = sym (picked_none binary64 _ (sym c.no_profile.ensures ∙ c.if-no_profile.true))

pub returns : goal.returns
unfolding of_bits round
returns c =
    entry _ (sym c.no_profile.ensures ∙ c.if-no_profile.false)
