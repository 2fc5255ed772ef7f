-- `revocation::queues::push` meets its contract: behind the others where there is room, over the oldest where there is none.
use Rattle.std.proofs.Common.{◌≡◌, List, ℕ, ◌+◌, ◌%◌, ◌<◌, ◌≤◌, lt-ltb, le-ltb, set}
use Rattle.revocation.specs.Words.{first_of, length_of, ring_at}
use Rattle.revocation.specs.Queue.{notice_set, pushed}
use Rattle.revocation.proofs.queues.push.Goals as goal

module _ (id time reason : ℕ) (qu after : List ℕ) where
  behind : after ≡ notice_set (ring_at qu (length_of qu)) id time reason qu → length_of qu < 256
      → set after 2 (length_of qu + 1) ≡ pushed id time reason qu
  unfolding pushed
  behind e room = rw (lt-ltb (length_of qu) 256 room, e)

  over : after ≡ notice_set (first_of qu) id time reason qu → 256 ≤ length_of qu
      → set after 1 ((first_of qu + 1) % 256) ≡ pushed id time reason qu
  unfolding pushed
  over e full = rw (le-ltb (length_of qu) 256 full, e)

pub returns-then-length-lt256 : goal.returns-then-length-lt256
returns-then-length-lt256 c = behind _ _ _ _ _ c.set_notice.ensures c.if-length-lt256.true

pub returns : goal.returns
returns c = over _ _ _ _ _ c.set_notice-2.ensures c.if-length-lt256.false
