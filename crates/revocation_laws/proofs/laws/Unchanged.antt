-- What refusals leave: a refusal's value is 0 and it changes nothing, not even the lent area, but that the lookup of a held revoke stays
-- counted. And an id that is revoked already: 0, nothing changes.
use Rattle.std.proofs.Common.{true, List, ◌≢◌, ◌≡◌, refl, ap, ◌∙◌, ℕ, ◌≤◌, ◌<◌, arith, length, Some}
use Rattle.answers.specs.Answer.{Answer, Done, InvalidCapability, BadField, LogFull, PidTableFull, BadWorld}
use Rattle.registry.specs.Words.{revoked}
use Rattle.revocation.specs.Reason.{reason_of, name_of}
use Rattle.space.specs.Lookup.{looked_up}
use Rattle.steps.specs.Replies.{Left, WithArea, replied, done, refusal, refuse, into_area, Reply}
use Rattle.steps.specs.Steps.{space_of, lookup_step, place_in}
use Rattle.base.specs.Cases.{either}
use Rattle.steps.proofs.laws.Entered.{world_by_cases}
use Rattle.steps.proofs.laws.Listed.{into_by_cases}
use Rattle.table.specs.declared.CapabilityEntry.{CapabilityEntry}
use Rattle.token.specs.Rights.{REVOKE, holds}
use Rattle.token.specs.Token.{id_of}
use Rattle.world.specs.Numbers.{numbers_of, registered_of}
use Rattle.world.specs.Sound.{states, Sound}
use Rattle.world.specs.declared.Numbers.{Numbers}
use Rattle.notification_calls.specs.Calls.{notify_out, peek_out, drain_out, cleanup_out}
use Rattle.revocation_calls.specs.Calls.{revoke_out, revoke_capability_out, revoke_held_out, revoke_batch_out}
use Rattle.revocation_reads.specs.Calls.{descendants, descendants_out, reason_out}
use Rattle.cascade.specs.Cascade.{revoking}
use Rattle.revocation_calls.specs.Revoking.{revoking_token}
use Rattle.revocation_calls.proofs.laws.RevokingWays.{revoking_by_cases, logging_by_cases, revoking_token_by_cases}
use Rattle.revocation_laws.proofs.laws.Counted.{same_registered, same_registry}
use Rattle.revocation_laws.proofs.laws.NoticeWays.{notify_by_cases, peek_by_cases, drain_by_cases, drain_peeks}
use Rattle.revocation_laws.proofs.laws.Ways.{each_done, revoke_by_cases, revoke_capability_by_cases, held_by_cases, batch_by_cases, with_visits, revoke_registered, revoke_capability_called, held_with_revoke}

-- Any answer but 0 leaves the memory as it was, with the value 0,
pub record Unchanged (mem : List ℕ) (out : Left Reply) : Type 0 where
  pub same_memory : out.reply.answer ≢ Done → out.memory ≡ mem
  pub no_value : out.reply.answer ≢ Done → out.reply.value ≡ 0

-- and the area.
pub record UnchangedArea (area : List ℕ) (l : WithArea) : Type 0 where
  pub same_area : l.reply.answer ≢ Done → l.area ≡ area
  pub no_value : l.reply.answer ≢ Done → l.reply.value ≡ 0

refused : (mem : List ℕ) (a : Answer) → Unchanged mem (refuse mem a)
refused mem a = record { same_memory = λ not_0. refl; no_value = λ not_0. refl }

given_0 : (mem : List ℕ) (out : Left Reply) → out.reply.answer ≡ Done → Unchanged mem out
given_0 mem out e = record { same_memory = λ not_0. absurd (not_0 e); no_value = λ not_0. absurd (not_0 e) }

-- ---- a revocation

module _ (d : Numbers) (mem : List ℕ) where
  revoking_unchanged : (r time : ℕ) (listed : List ℕ) → Unchanged mem (revoking d r time listed mem)
  revoking_unchanged r time listed =
      revoking_by_cases d mem (Unchanged mem) r time listed (λ already. given_0 mem _ refl) (λ un full. refused mem LogFull)
      (λ un fits crowded. refused mem PidTableFull) (λ un fits room. given_0 mem _ refl)

  token_unchanged : (token time : ℕ) (listed : List ℕ) → Unchanged mem (revoking_token d token time listed mem)
  token_unchanged token time listed =
      revoking_token_by_cases d mem (Unchanged mem) token time listed (λ inside. revoking_unchanged _ time listed)
      (λ outside. logging_by_cases d mem (Unchanged mem) token (λ full. refused mem LogFull) (λ fits. given_0 mem _ refl))

  -- Revoked already.
  revoking_already :
      (r time : ℕ) (listed : List ℕ) → revoked (states d mem r) ≡ 1 → revoking d r time listed mem ≡ record { reply = done 0; memory = mem }
  revoking_already r time listed gone =
      revoking_by_cases d mem (λ out. out ≡ record { reply = done 0; memory = mem }) r time listed (λ already. refl)
      (λ un full. absurd (omega arith)) (λ un fits crowded. absurd (omega arith)) (λ un fits room. absurd (omega arith))

  token_already :
      (token time : ℕ) (listed : List ℕ) → place_in d mem (id_of token) < registered_of mem
      → revoked (states d mem (place_in d mem (id_of token))) ≡ 1
      → revoking_token d token time listed mem ≡ record { reply = done 0; memory = mem }
  token_already token time listed inside gone =
      revoking_token_by_cases d mem (λ out. out ≡ record { reply = done 0; memory = mem }) token time listed
      (λ inside. revoking_already _ time listed gone)
      (λ outside. absurd (omega arith))

-- ---- the calls that revoke

module _ (mem : List ℕ) (time : ℕ) (listed : List ℕ) where
  abbrev d : Numbers
  d = numbers_of mem

  pub revoke_unchanged : (token : ℕ) → Unchanged mem (revoke_out mem token time listed)
  revoke_unchanged token =
      revoke_by_cases mem time listed (Unchanged mem) (λ bad. refused mem BadWorld) token
      (λ sound many. refused mem BadField) (λ sound few outside. refused mem InvalidCapability)
      (λ sound few inside. revoking_unchanged d mem _ time listed)

  pub revoke_capability_unchanged : (token : ℕ) → Unchanged mem (revoke_capability_out mem token time listed)
  revoke_capability_unchanged token =
      revoke_capability_by_cases mem time listed (Unchanged mem) (λ bad. refused mem BadWorld) token
      (λ sound many. refused mem BadField) (λ sound few. token_unchanged d mem token time listed)

  pub batch_unchanged : (tokens : List ℕ) → Unchanged mem (revoke_batch_out mem tokens time listed)
  batch_unchanged tokens =
      batch_by_cases mem time listed (Unchanged mem) (λ bad. refused mem BadWorld) tokens
      (λ sound over. refused mem BadField) (λ sound fits many. refused mem BadField)
      (λ sound fits few. given_0 mem _ (each_done d tokens time listed 0 mem))

  -- Where the arguments are good, an id that is revoked already.
  module _ (sound : Sound mem) (few : length listed ≤ 32) (token : ℕ)
      (inside : place_in (numbers_of mem) mem (id_of token) < registered_of mem)
      (gone : revoked (states (numbers_of mem) mem (place_in (numbers_of mem) mem (id_of token))) ≡ 1)
    where
      pub revoke_already : revoke_out mem token time listed ≡ record { reply = done 0; memory = mem }
      revoke_already = revoke_registered mem sound time listed few token inside ∙ revoking_already d mem _ time listed gone

      pub revoke_capability_already : revoke_capability_out mem token time listed ≡ record { reply = done 0; memory = mem }
      revoke_capability_already =
          revoke_capability_called mem sound time listed few token ∙ token_already d mem token time listed inside gone

  -- ---- a held revoke

  module _ (s token : ℕ) where
    abbrev after : List ℕ
    after = lookup_step d s token mem

    -- No value, whatever it answers.
    pub held_value : (revoke_held_out mem s token time listed).reply.value ≡ 0
    held_value =
        held_by_cases mem time listed (λ out. out.reply.value ≡ 0) (λ bad. refl) s token (λ sound far. refl) (λ sound there many. refl)
        (λ sound there few none. refl) (λ sound there few e is lacks. refl) (λ sound there few e is has. refl)

    -- 26, 20, 21.
    pub held_unentered :
        (Sound mem → s < (numbers_of mem).spaces → length listed ≤ 32 → ⊥) → (revoke_held_out mem s token time listed).memory ≡ mem
    held_unentered unentered =
        held_by_cases mem time listed (λ (out : Left Reply). out.memory ≡ mem) (λ bad. refl) s token (λ sound far. refl)
        (λ sound there many. refl) (λ sound there few none. absurd (unentered sound there few))
        (λ sound there few e is lacks. absurd (unentered sound there few)) (λ sound there few e is has. absurd (unentered sound there few))

    module _ (sound : Sound mem) (there : s < (numbers_of mem).spaces) (few : length listed ≤ 32) where
      -- 8, 2, 24, 25: the lookup is counted.
      pub held_unchanged :
          (revoke_held_out mem s token time listed).reply.answer ≢ Done
          → (revoke_held_out mem s token time listed).memory ≡ lookup_step (numbers_of mem) s token mem
      held_unchanged =
          held_by_cases mem time listed (λ out. out.reply.answer ≢ Done → out.memory ≡ after) (λ bad. absurd (bad sound)) s token
          (λ sound far. absurd (omega arith)) (λ sound there many. absurd (omega arith)) (λ sound there few none not_0. refl)
          (λ sound there few e is lacks not_0. refl)
          (λ sound there few e is has. (token_unchanged d after token time listed).same_memory)

      -- Held with REVOKE, and revoked already: the lookup is counted, and that is all.
      pub held_already :
          (e : CapabilityEntry) → (looked_up (space_of (numbers_of mem) s mem) token).got ≡ Some e → holds e.rights.0 REVOKE ≡ true
          → place_in (numbers_of mem) mem (id_of token) < registered_of mem
          → revoked (states (numbers_of mem) mem (place_in (numbers_of mem) mem (id_of token))) ≡ 1
          → revoke_held_out mem s token time listed
          ≡ record {
            reply = replied Done 0 (looked_up (space_of (numbers_of mem) s mem) token).visits;
            memory = lookup_step (numbers_of mem) s token mem;
          }
      held_already e is with' inside gone =
          let count = same_registered d mem sound s there token in
          let words = same_registry d mem sound s there token in
          let already = token_already d after token time listed (rw (count, words) inside) (rw (count, words) gone) in
          held_with_revoke mem sound time listed few s token there e is with'
          ∙ ap (with_visits (looked_up (space_of d s mem) token).visits) already

-- ---- notifications

pub notify_unchanged : (mem : List ℕ) (pid id reason time : ℕ) → Unchanged mem (notify_out mem pid id reason time)
notify_unchanged mem pid id reason time =
    notify_by_cases mem pid id reason time (Unchanged mem) (λ bad. refused mem BadWorld) (λ sound over. refused mem BadField)
    (λ sound fits over. refused mem BadField) (λ sound fits coded full. refused mem PidTableFull)
    (λ sound fits coded room. given_0 mem _ refl)

pub cleanup_unchanged : (mem : List ℕ) (pid : ℕ) → Unchanged mem (cleanup_out mem pid)
unfolding cleanup_out
cleanup_unchanged mem pid =
    world_by_cases (Unchanged mem) (refuse mem) mem _ (λ bad. refused mem BadWorld) (λ sound. given_0 mem _ refl)

-- ---- lists

refused_list : (area : List ℕ) (a : Answer) → UnchangedArea area (record { reply = refusal a; area = area })
refused_list area a = record { same_area = λ not_0. refl; no_value = λ not_0. refl }

listed_0 : (area : List ℕ) (l : WithArea) → l.reply.answer ≡ Done → UnchangedArea area l
listed_0 area l e = record { same_area = λ not_0. absurd (not_0 e); no_value = λ not_0. absurd (not_0 e) }

listed_unchanged : (xs area : List ℕ) → UnchangedArea area (into_area xs area)
listed_unchanged xs area = into_by_cases xs area (UnchangedArea area) (λ short. refused_list area BadField) (λ fits. listed_0 area _ refl)

pub reason_unchanged : (reason : ℕ) (area : List ℕ) → UnchangedArea area (reason_out reason area)
unfolding reason_out
reason_unchanged reason area =
    either (UnchangedArea area) _ _ _ (refused_list area BadField) (listed_unchanged (name_of (reason_of reason)) area)

module _ (mem : List ℕ) where
  pub descendants_unchanged : (id : ℕ) (area : List ℕ) → UnchangedArea area (descendants_out mem id area)
  unfolding descendants_out
  descendants_unchanged id area =
      world_by_cases (UnchangedArea area) _ mem _ (λ bad. refused_list area BadWorld)
      (λ sound.
      either (UnchangedArea area) _ _ _ (refused_list area BadField)
      (listed_unchanged (descendants (numbers_of mem) mem (place_in (numbers_of mem) mem id)) area))

  pub peek_unchanged : (pid : ℕ) (area : List ℕ) → UnchangedArea area (peek_out mem pid area)
  peek_unchanged pid area =
      peek_by_cases mem pid area (UnchangedArea area) (λ bad. refused_list area BadWorld) (λ sound short. refused_list area BadField)
      (λ sound fits. listed_0 area _ refl)

  pub drain_unchanged :
      (pid : ℕ) (area : List ℕ)
      → ((drain_out mem pid area).reply.reply.answer ≢ Done → (drain_out mem pid area).memory ≡ mem)
      × UnchangedArea area (drain_out mem pid area).reply
  drain_unchanged pid area = (
    drain_by_cases mem pid area (λ (out : Left WithArea). out.reply.reply.answer ≢ Done → out.memory ≡ mem) (λ bad not_0. refl)
        (λ sound short not_0. refl) (λ sound fits not_0. absurd (not_0 refl)),
    rw (drain_peeks mem pid area) (peek_unchanged pid area),
  )
