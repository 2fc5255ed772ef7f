-- A host sees of a call's reply what it sees of the definition's. One law for a call that leaves the memory, one for a call that leaves a
-- lent area; a proof search uses both for a call that leaves both.
use Rattle.std.specs.Prelude.{List, ◌≡◌, ℕ}
use Rattle.std.proofs.Common.{ap}
use Rattle.steps.specs.Replies.{Left, WithArea, Reply}
use Rattle.host_replies.specs.Replies.{call_answer, told, area_answer}
use Rattle.host_replies.specs.declared.CallAnswer.{CallAnswer}

pub seen_left : {A B : Type 0} (seen : A → B) (reply : A) (memory : List ℕ) (left : Left A) (r : B)
    → record { reply = reply; memory = memory } ≡ left → r ≡ seen reply → record { reply = r; memory = memory } ≡ told seen left
unfolding told
seen_left seen reply memory left r is so = rw so (ap (told seen) is)

pub seen_area : (reply : Reply) (area : List ℕ) (listed : WithArea) (r : CallAnswer) → record { reply = reply; area = area } ≡ listed
    → r ≡ call_answer reply → record { reply = r; area = area } ≡ area_answer listed
unfolding area_answer
seen_area reply area listed r is so = rw so (ap area_answer is)

pub ruleset seen_so = (seen_left, seen_area)
