-- Document 01, "Registry and delegation": what create and delegate end with, the insert of the id just registered. Where the space refuses
-- it, the registering is undone. d are the numbers of a sound memory. The value is the token, the count the entries that the insert moved.
use Rattle.std.specs.Prelude.{List, ℕ, ◌-◌, eqb}
use Rattle.answers.specs.Number.{number_of}
use Rattle.answers.specs.Answer.{Done, OutOfMemory}
use Rattle.base.specs.Choose.{pick}
use Rattle.space.specs.Change.{insert_out}
use Rattle.steps.specs.Replies.{Left, replied, refuse, Reply}
use Rattle.steps.specs.Steps.{space_of, new_entry, insert_step, unregister_step, recycle_step, add_step}
use Rattle.world.specs.Numbers.{registered_of}
use Rattle.world.specs.declared.Numbers.{Numbers}

-- The entry of the id registered last goes into space s; word i of the head counts it. Where the space refuses it, the id leaves the
-- registry and its parent's list, and is recycled: 4.
unfoldable pub admitted : Numbers → ℕ → ℕ → ℕ → ℕ → ℕ → ℕ → List ℕ → Left Reply
admitted d s id token object rights i mem =
    let o = insert_out (space_of d s mem) (new_entry token object rights) in
    let after = insert_step d s (new_entry token object rights) mem in
    pick (eqb (number_of o.answer) 0)
    (record { reply = replied Done token o.moved; memory = add_step i 1 after })
    (refuse (recycle_step d id (unregister_step d (registered_of after - 1) after)) OutOfMemory)
