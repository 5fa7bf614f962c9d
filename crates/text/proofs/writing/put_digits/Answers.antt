-- `text::writing::put_digits` meets its contract: the digits stored where there is room, and nothing where there is none. Assumes nothing.
use mathlib.Core.Path.{sym, ◌∙◌}
use Rattle.text.proofs.Digits.{length_digits}
use Rattle.text.proofs.WritingLaws.{put_room, put_none}
use Rattle.text.proofs.writing.put_digits.Goals as goal

pub returns-then-room : goal.returns-then-room
returns-then-room c =
    put_room _ _ _ _ (length_digits _ _ _) _ c.store_digits.ensures (sym c.room.ensures ∙ c.if-room.true)

pub returns-else-room : goal.returns-else-room
returns-else-room c = put_none _ _ _ _ (length_digits _ _ _) (sym c.room.ensures ∙ c.if-room.false)
