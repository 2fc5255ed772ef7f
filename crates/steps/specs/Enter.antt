-- What a call meets first, the order of refusals: 26 on memory that is not sound, then 20 for a space number of S or more, then what the
-- call does there. The code sees it as a Result, and hands a refusal on.
use Rattle.std.specs.Prelude.{ℕ, not, List, nat_lt, Result, Ok, Err}
use Rattle.answers.specs.Answer.{Answer, Refuses}
use Rattle.answers.specs.declared.Refusal.{Refusal}
use Rattle.answers.specs.declared.Refusal.TheVariants.{BadSpace, BadWorld}
use Rattle.base.specs.Choose.{when}
use Rattle.world.specs.Numbers.{numbers_of}
use Rattle.world.specs.Sound.{sound_test}
use Rattle.world.specs.declared.Numbers.{Numbers}

-- 26, or the numbers of a sound memory.
unfoldable pub entered_world : List ℕ → Result Numbers Refusal
entered_world mem = when (not (sound_test mem)) (Err BadWorld) (Ok (numbers_of mem))

-- 20 for a space that numbers of a sound memory don't have.
abbrev pub with_space : ℕ → Result Numbers Refusal → Result Numbers Refusal
with_space s (Err refusal) = Err refusal
with_space s (Ok d) = when (not (nat_lt s d.spaces)) (Err BadSpace) (Ok d)

-- 26, then 20.
unfoldable pub entered_space : List ℕ → ℕ → Result Numbers Refusal
entered_space mem s = with_space s (entered_world mem)

-- The refusal as a call answers it, or what the call does.
abbrev pub go_on : {A : Type 0} → (Answer → A) → (Numbers → A) → Result Numbers Refusal → A
go_on refuse call (Err refusal) = refuse (Refuses refusal)
go_on refuse call (Ok d) = call d

unfoldable pub on_world : {A : Type 0} → (Answer → A) → List ℕ → (Numbers → A) → A
on_world refuse mem call = go_on refuse call (entered_world mem)

unfoldable pub on_space : {A : Type 0} → (Answer → A) → List ℕ → ℕ → (Numbers → A) → A
on_space refuse mem s call = go_on refuse call (entered_space mem s)
