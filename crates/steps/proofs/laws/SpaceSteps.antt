-- Each step of a space keeps a sound memory: the space as its own laws say, and holders by as much as its entries come and go.
use Rattle.std.proofs.Common.{◌≡◌, ℕ, ◌+◌, ◌-◌, ◌*◌, ◌%◌, ◌^◌, ◌<◌, ◌≤◌, Bool, true, false, eqb, List, length, sym, refl, ap, ◌∙◌, subst, true≢false, arith, eqb-true, Option, None, Some}
use Rattle.std.specs.Prelude.{is_some}
use Rattle.answers.specs.Number.{number_of}
use Rattle.base.specs.Below.{one}
use Rattle.base.specs.Choose.{pick}
use Rattle.base.specs.Part.{on_part_same}
use Rattle.base.specs.SumLaws.{sum_one_le}
use Rattle.registry.specs.Holders.{held, released, held_all, released_all}
use Rattle.registry.specs.HoldersLaws.{HoldersOnly, count, holders_only_refl, holders_only_trans, held_only, released_only, held_holders, released_holders, held_all_only, released_all_only, held_all_holders, released_all_holders}
use Rattle.registry.specs.StatesOnly.{same_ids, states_only_differ}
use Rattle.registry.specs.Words.{id_at, state_at, holders}
use Rattle.table.specs.Insert.{live_entries}
use Rattle.table.specs.Slots.{id_of}
use Rattle.table.specs.declared.CapabilityEntry.{CapabilityEntry}
use Rattle.table.proofs.laws.LiveEntries.{live_count_le}
use Rattle.space.specs.Change.{insert_out, removed_token, cleared, next_generation}
use Rattle.space.specs.Copy.{copied_space}
use Rattle.space.specs.Ids.{ids_of-length, entry_ids}
use Rattle.space.specs.Lookup.{looked_up, counted}
use Rattle.space.specs.Sound.{SpaceOf}
use Rattle.space.specs.Words.{table_of, slot_words}
use Rattle.space.proofs.laws.Insert.{zero_is_done}
use Rattle.space.proofs.laws.Kept.{lookup_keeps, insert_keeps, remove_keeps, clear_keeps, next_keeps, copy_keeps}
use Rattle.world.specs.Regions.{space, registry, length_for, start_of, size_of, view, on_region}
use Rattle.world.specs.Sound.{has_entry, spaces_with, SoundAt}
use Rattle.world.specs.Views.{Change, length_kept, changed_twice, registry_words}
use Rattle.world.specs.declared.Numbers.{Numbers}
use Rattle.steps.specs.Steps.{lookup_step, next_step, hold_step, release_step, hold_all_step, release_all_step, insert_step, remove_step, clear_step, copy_step}
use Rattle.steps.proofs.laws.Ready.{is_space}
use Rattle.steps.proofs.laws.HasEntry.{count_in_entries}
use Rattle.steps.proofs.laws.EntriesChanged.{counted_entries, next_entries, cleared_entries, copied_entries, inserted_entries, refused_entries, removed_entries, missed_entries}
use Rattle.steps.proofs.laws.Kept.{Kept}
use Rattle.steps.proofs.laws.RegistryChanged.{registry_in}
use Rattle.steps.proofs.laws.Stepped.{space_change, step_kept}

-- A space has at most M entries.
few_ids : (most : ℕ) (sp : List ℕ) → SpaceOf most sp → length (entry_ids sp) ≤ most
unfolding entry_ids
few_ids most sp s =
    let ws : List ℕ = slot_words sp in
    omega (arith, ids_of-length (live_entries ws 0 (table_of sp).slots), live_count_le most ws (table_of sp) s.sound.table)

module _ (d : Numbers) (mem : List ℕ) (sound : SoundAt d mem) where
  open registry_in d mem use {rg, n}

  long : 5 * d.places + 1 ≤ length rg
  long = registry_words d mem sound.long_enough

  -- An id has at most a holder a space, so no count comes near the end of a word.
  few_holders : (k : ℕ) → k < n → holders (state_at d.places rg k) ≤ 64
  unfolding spaces_with
  few_holders k l =
      omega (
        arith,
        sound.held k l,
        sum_one_le (λ s. has_entry (view d (space s) mem) (id_at rg k)) d.spaces,
        sound.in_range.spaces,
      )

  module _ (s : ℕ) (valid : s < d.spaces) where
    abbrev sp : List ℕ
    sp = view d (space s) mem

    of_space : SpaceOf d.most sp
    of_space = is_space d mem sound s valid

    -- The space keeps the ids of its entries: holders stay.
    quiet :
        (f : List ℕ → List ℕ) → SpaceOf d.most (f sp) → ((id : ℕ) → has_entry (f sp) id ≡ has_entry sp id)
        → Kept d mem (on_region d (space s) f mem)
    quiet f keeps same =
        subst (Kept d mem) (on_part_same (start_of d registry) (size_of d registry) (λ ws. ws) (on_region d (space s) f mem) refl)
        (step_kept d s f (λ ws. ws) mem sound
        (record {
          valid = valid;
          keeps_space = keeps;
          only_holders = holders_only_refl d.places rg;
          no_more = λ k l. rw (same (id_at rg k)) (omega arith);
        }))

    pub lookup_step_kept : (token : ℕ) → Kept d mem (lookup_step d s token mem)
    unfolding lookup_step
    lookup_step_kept token =
        quiet (λ sp. counted sp token) (lookup_keeps d.most sp of_space token) (λ id. counted_entries d.most sp of_space id token)

    pub next_step_kept : Kept d mem (next_step d s mem)
    unfolding next_step
    next_step_kept = quiet next_generation (next_keeps d.most sp of_space) (next_entries d.most sp of_space)

    -- An accepted entry brings its holder.
    pub insert_step_kept : (e : CapabilityEntry) → e.rights.0 < 2 ^ 32 → Kept d mem (insert_step d s e mem)
    unfolding insert_step hold_step
    insert_step_kept e rights = go (eqb (number_of (insert_out sp e).answer) 0) refl
      where
        after : List ℕ
        after = on_region d (space s) (λ sp. (insert_out sp e).words) mem

        go : (b : Bool) → eqb (number_of (insert_out sp e).answer) 0 ≡ b → Kept d mem (pick b (hold_step d n (id_of e) after) after)
        go true h =
            step_kept d s (λ sp. (insert_out sp e).words) (held d.places n (id_of e)) mem sound
            (record {
              valid = valid;
              keeps_space = insert_keeps d.most sp of_space e rights;
              only_holders = held_only d.places n rg sound.registered_fit long (id_of e);
              no_more = λ k l.
                  omega (
                    arith,
                    held_holders d.places n rg sound.registered_fit long (id_of e) sound.ids_differ k l
                        (omega (arith, few_holders k l)),
                    inserted_entries d.most sp of_space (id_at rg k) e rights (zero_is_done sp e (eqb-true _ 0 h)),
                  );
            })
        go false h =
            quiet (λ sp. (insert_out sp e).words) (insert_keeps d.most sp of_space e rights)
            (λ id. refused_entries d.most sp of_space id e (λ done. true≢false (sym (ap (λ a. eqb (number_of a) 0) done) ∙ h)))

    -- An entry that leaves takes its holder with it.
    pub remove_step_kept : (token : ℕ) → Kept d mem (remove_step d s token mem)
    unfolding remove_step release_step
    remove_step_kept token = go (looked_up sp token).got refl
      where
        after : List ℕ
        after = on_region d (space s) (λ sp. removed_token sp token) mem

        go : (g : Option CapabilityEntry) → (looked_up sp token).got ≡ g
            → Kept d mem (pick (is_some g) (release_step d n (token % 2 ^ 48) after) after)
        go (Some x) h =
            step_kept d s (λ sp. removed_token sp token) (released d.places n (token % 2 ^ 48)) mem sound
            (record {
              valid = valid;
              keeps_space = remove_keeps d.most sp of_space token;
              only_holders = released_only d.places n rg sound.registered_fit long (token % 2 ^ 48);
              no_more = λ k l.
                  omega (
                    arith,
                    released_holders d.places n rg sound.registered_fit long (token % 2 ^ 48) sound.ids_differ k l,
                    removed_entries d.most sp of_space (id_at rg k) token x h,
                  );
            })
        go None h =
            quiet (λ sp. removed_token sp token) (remove_keeps d.most sp of_space token)
            (λ id. missed_entries d.most sp of_space id token h)

    pub clear_step_kept : Kept d mem (clear_step d s mem)
    unfolding clear_step release_all_step
    clear_step_kept =
        step_kept d s cleared (released_all d.places n (entry_ids sp)) mem sound
        (record {
          valid = valid;
          keeps_space = clear_keeps d.most sp of_space;
          only_holders = released_all_only d.places n sound.registered_fit (entry_ids sp) rg long;
          no_more = λ k l.
              omega (
                arith,
                released_all_holders d.places n sound.registered_fit k l (entry_ids sp) rg long sound.ids_differ,
                count_in_entries d.most sp of_space (id_at rg k),
                ap one (cleared_entries d.most sp of_space (id_at rg k)),
              );
        })

  -- A copy brings the holders of its entries before the old ones leave.
  module _ (target source : ℕ) (to : target < d.spaces) (from : source < d.spaces) where
    abbrev src : List ℕ
    src = view d (space source) mem

    abbrev tgt : List ℕ
    tgt = view d (space target) mem

    abbrev between : List ℕ
    between = on_region d (space target) (copied_space src) mem

    abbrev came : List ℕ → List ℕ
    came ws = held_all d.places n (entry_ids src) ws

    abbrev left : List ℕ → List ℕ
    left ws = released_all d.places n (entry_ids tgt) ws

    copy_kept : SpaceOf d.most (copied_space src tgt)
    copy_kept = copy_keeps d.most src tgt (of_space source from) (of_space target to)

    came_only : HoldersOnly d.places rg (came rg)
    came_only = held_all_only d.places n sound.registered_fit (entry_ids src) rg long

    came_long : 5 * d.places + 1 ≤ length (came rg)
    came_long = omega (arith, long, came_only.same_length)

    in_registry : Change d registry came between
    in_registry =
        let in_target = space_change d target (copied_space src) mem sound to copy_kept in
        let fits : length_for d ≤ length between = rw (length_kept d (space target) (copied_space src) mem in_target) sound.long_enough in
        let room : 5 * d.places + 1 ≤ length (view d registry between) = registry_words d between fits in
        record {
          valid = tt;
          long = fits;
          kept = (held_all_only d.places n sound.registered_fit (entry_ids src) (view d registry between) room).same_length;
        }

    no_more :
        (k : ℕ) → k < n
        → holders (state_at d.places (left (came rg)) k)
        ≤ holders (state_at d.places rg k) + one (has_entry (copied_space src tgt) (id_at rg k)) - one (has_entry tgt (id_at rg k))
    no_more k l =
        let fit = sound.registered_fit in
        let same : id_at (came rg) k ≡ id_at rg k = same_ids d.places rg (came rg) came_only k (omega arith) in
        omega (
          arith,
          released_all_holders d.places n fit k l (entry_ids tgt) (came rg) came_long
              (states_only_differ d.places rg (came rg) came_only n fit sound.ids_differ),
          held_all_holders d.places n fit k l (entry_ids src) rg long sound.ids_differ
              (omega (arith, few_holders k l, few_ids d.most src (of_space source from), sound.in_range.most)),
          ap (λ id. count id (entry_ids tgt)) same,
          count_in_entries d.most src (of_space source from) (id_at rg k),
          count_in_entries d.most tgt (of_space target to) (id_at rg k),
          ap one (copied_entries d.most tgt (of_space target to) (id_at rg k) src (of_space source from)),
        )

    pub copy_step_kept : Kept d mem (copy_step d target source mem)
    unfolding copy_step hold_all_step release_all_step
    copy_step_kept =
        subst (Kept d mem) (sym (changed_twice d registry came between in_registry left))
        (step_kept d target (copied_space src) (λ ws. left (came ws)) mem sound
        (record {
          valid = to;
          keeps_space = copy_kept;
          only_holders =
              holders_only_trans d.places rg (came rg) (left (came rg)) came_only
              (released_all_only d.places n sound.registered_fit (entry_ids tgt) (came rg) came_long);
          no_more = no_more;
        }))
