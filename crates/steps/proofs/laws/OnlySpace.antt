-- Nothing but the named space and holders changes: what each step of a space leaves of that space, and that every other space, the head,
-- the log and the queues stay, and of the registry all but holders.
use Rattle.std.proofs.Common.{◌≡◌, ℕ, ◌+◌, ◌*◌, ◌%◌, ◌^◌, ◌<◌, ◌≤◌, Bool, true, false, eqb, ◌≢◌, List, length, get_or, sym, refl, ◌∙◌, subst, ne_eqb}
use Rattle.std.specs.Prelude.{is_some}
use Rattle.answers.specs.Number.{number_of}
use Rattle.base.specs.Choose.{pick}
use Rattle.registry.specs.HoldersLaws.{HoldersOnly, holders_only_refl, holders_only_trans, held_only, released_only, held_all_only, released_all_only}
use Rattle.space.specs.Change.{insert_out, removed_token, cleared, next_generation}
use Rattle.space.specs.Copy.{copied_space}
use Rattle.space.specs.Ids.{entry_ids}
use Rattle.space.specs.Lookup.{looked_up, counted}
use Rattle.space.specs.Sound.{SpaceOf}
use Rattle.space.proofs.laws.Kept.{lookup_keeps, insert_keeps, remove_keeps, clear_keeps, next_keeps, copy_keeps}
use Rattle.steps.specs.Steps.{space_of, lookup_step, next_step, hold_step, release_step, hold_all_step, release_all_step, insert_step, remove_step, clear_step, copy_step}
use Rattle.steps.proofs.laws.Ready.{is_space}
use Rattle.steps.proofs.laws.Stepped.{space_change}
use Rattle.table.specs.Slots.{id_of}
use Rattle.table.specs.declared.CapabilityEntry.{CapabilityEntry}
use Rattle.world.specs.Numbers.{registered_of}
use Rattle.world.specs.Regions.{space, registry, log, queue, length_for, view, on_region}
use Rattle.world.specs.Sound.{SoundAt}
use Rattle.world.specs.Views.{Change, length_kept, view_same, view_other, head_kept, registry_words}
use Rattle.world.specs.declared.Numbers.{Numbers}

pub record OnlySpace (d : Numbers) (s : ℕ) (mem after : List ℕ) : Type 0 where
  pub others : (k : ℕ) → k < d.spaces → k ≢ s → space_of d k after ≡ space_of d k mem
  pub only_holders : HoldersOnly d.places (view d registry mem) (view d registry after)
  pub same_head : (i : ℕ) → i < 16 → get_or after i 0 ≡ get_or mem i 0
  pub same_log : view d log after ≡ view d log mem
  pub same_queue : (q : ℕ) → q < d.queues → view d (queue q) after ≡ view d (queue q) mem

pub only_refl : (d : Numbers) (s : ℕ) (mem : List ℕ) → OnlySpace d s mem mem
only_refl d s mem = record {
  others = λ k l apart. refl;
  only_holders = holders_only_refl d.places (view d registry mem);
  same_head = λ i l. refl;
  same_log = refl;
  same_queue = λ q l. refl;
}

pub only_trans : (d : Numbers) (s : ℕ) (mem mid after : List ℕ) → OnlySpace d s mem mid → OnlySpace d s mid after → OnlySpace d s mem after
only_trans d s mem mid after h g = record {
  others = λ k l apart. g.others k l apart ∙ h.others k l apart;
  only_holders = holders_only_trans d.places _ _ _ h.only_holders g.only_holders;
  same_head = λ i l. g.same_head i l ∙ h.same_head i l;
  same_log = g.same_log ∙ h.same_log;
  same_queue = λ q l. g.same_queue q l ∙ h.same_queue q l;
}

-- The space's words after it are `sp`.
pub record Step (d : Numbers) (s : ℕ) (mem after sp : List ℕ) : Type 0 where
  pub only : OnlySpace d s mem after
  pub here : space_of d s after ≡ sp
  pub fits : length_for d ≤ length after

module _ (d : Numbers) (s : ℕ) (mem : List ℕ) (valid : s < d.spaces) where
  -- The space changes by f,
  in_space : (f : List ℕ → List ℕ) → Change d (space s) f mem → Step d s mem (on_region d (space s) f mem) (f (space_of d s mem))
  in_space f ch = record {
    only = record {
      others = λ k l apart. view_other d (space s) f mem ch (space k) l (ne_eqb s k (λ e. apart (sym e)));
      only_holders =
          subst (HoldersOnly d.places (view d registry mem)) (sym (view_other d (space s) f mem ch registry tt refl))
          (holders_only_refl d.places (view d registry mem));
      same_head = head_kept d (space s) f mem ch refl;
      same_log = view_other d (space s) f mem ch log tt refl;
      same_queue = λ q l. view_other d (space s) f mem ch (queue q) l refl;
    };
    here = view_same d (space s) f mem ch;
    fits = rw (length_kept d (space s) f mem ch) ch.long;
  }

  -- then holders by g.
  with_holders :
      (mid sp : List ℕ) (g : List ℕ → List ℕ) → Step d s mem mid sp
      → ((rg : List ℕ) → 5 * d.places + 1 ≤ length rg → HoldersOnly d.places rg (g rg)) → Step d s mem (on_region d registry g mid) sp
  with_holders mid sp g st counts =
      let rg : List ℕ = view d registry mid in
      let holds : HoldersOnly d.places rg (g rg) = counts rg (registry_words d mid st.fits) in
      let ch : Change d registry g mid = record { valid = tt; long = st.fits; kept = holds.same_length } in
      record {
        only = only_trans d s mem mid _ st.only
            (record {
              others = λ k l apart. view_other d registry g mid ch (space k) l refl;
              only_holders = subst (HoldersOnly d.places rg) (sym (view_same d registry g mid ch)) holds;
              same_head = head_kept d registry g mid ch refl;
              same_log = view_other d registry g mid ch log tt refl;
              same_queue = λ q l. view_other d registry g mid ch (queue q) l refl;
            });
        here = view_other d registry g mid ch (space s) valid refl ∙ st.here;
        fits = rw (length_kept d registry g mid ch) st.fits;
      }

-- ---- the steps of a space

module _ (d : Numbers) (mem : List ℕ) (sound : SoundAt d mem) (s : ℕ) (valid : s < d.spaces) where
  abbrev sp : List ℕ
  sp = space_of d s mem

  of_space : SpaceOf d.most sp
  of_space = is_space d mem sound s valid

  changed : (f : List ℕ → List ℕ) → SpaceOf d.most (f sp) → Step d s mem (on_region d (space s) f mem) (f sp)
  changed f keeps = in_space d s mem valid f (space_change d s f mem sound valid keeps)

  pub lookup_in_space : (token : ℕ) → Step d s mem (lookup_step d s token mem) (counted sp token)
  unfolding lookup_step
  lookup_in_space token = changed (λ sp. counted sp token) (lookup_keeps d.most sp of_space token)

  pub next_in_space : Step d s mem (next_step d s mem) (next_generation sp)
  unfolding next_step
  next_in_space = changed next_generation (next_keeps d.most sp of_space)

  pub insert_in_space : (e : CapabilityEntry) → e.rights.0 < 2 ^ 32 → Step d s mem (insert_step d s e mem) (insert_out sp e).words
  unfolding insert_step hold_step
  insert_in_space e rights = go (eqb (number_of (insert_out sp e).answer) 0)
    where
      after : List ℕ
      after = on_region d (space s) (λ sp. (insert_out sp e).words) mem

      came : Step d s mem after (insert_out sp e).words
      came = changed (λ sp. (insert_out sp e).words) (insert_keeps d.most sp of_space e rights)

      go : (b : Bool) → Step d s mem (pick b (hold_step d (registered_of mem) (id_of e) after) after) (insert_out sp e).words
      go true =
          with_holders d s mem valid after _ _ came
          (λ rg long. held_only d.places (registered_of mem) rg sound.registered_fit long (id_of e))
      go false = came

  pub remove_in_space : (token : ℕ) → Step d s mem (remove_step d s token mem) (removed_token sp token)
  unfolding remove_step release_step
  remove_in_space token = go (is_some (looked_up sp token).got)
    where
      after : List ℕ
      after = on_region d (space s) (λ sp. removed_token sp token) mem

      gone : Step d s mem after (removed_token sp token)
      gone = changed (λ sp. removed_token sp token) (remove_keeps d.most sp of_space token)

      go : (b : Bool) → Step d s mem (pick b (release_step d (registered_of mem) (token % 2 ^ 48) after) after) (removed_token sp token)
      go true =
          with_holders d s mem valid after _ _ gone
          (λ rg long. released_only d.places (registered_of mem) rg sound.registered_fit long (token % 2 ^ 48))
      go false = gone

  pub clear_in_space : Step d s mem (clear_step d s mem) (cleared sp)
  unfolding clear_step release_all_step
  clear_in_space =
      with_holders d s mem valid _ _ _ (changed cleared (clear_keeps d.most sp of_space))
      (λ rg long. released_all_only d.places (registered_of mem) sound.registered_fit (entry_ids sp) rg long)

  pub copy_in_space : (source : ℕ) → source < d.spaces → Step d s mem (copy_step d s source mem) (copied_space (space_of d source mem) sp)
  unfolding copy_step hold_all_step release_all_step
  copy_in_space source from =
      let src : List ℕ = space_of d source mem in
      let n : ℕ = registered_of mem in
      let came =
      with_holders d s mem valid _ _ _ (changed (copied_space src) (copy_keeps d.most src sp (is_space d mem sound source from) of_space))
      (λ rg long. held_all_only d.places n sound.registered_fit (entry_ids src) rg long) in
      with_holders d s mem valid _ _ _ came
      (λ rg long. released_all_only d.places n sound.registered_fit (entry_ids sp) rg long)
