-- `text::writing::put` meets its contract: the bytes stored where there is room, and nothing where there is none. Assumes nothing.
use mathlib.Core.Path.{refl, sym, ◌∙◌}
use Rattle.text.proofs.WritingLaws.{put_room, put_none}
use Rattle.text.proofs.writing.put.Goals as goal

pub returns-then-room : goal.returns-then-room
returns-then-room c =
    put_room _ _ _ _ refl _ c.store.ensures (sym c.room.ensures ∙ c.if-room.true)

pub returns-else-room : goal.returns-else-room
returns-else-room c = put_none _ _ _ _ refl (sym c.room.ensures ∙ c.if-room.false)
