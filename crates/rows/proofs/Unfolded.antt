-- What the rows of a world compute through, a name for each crate or a part of one: to unfold the name is to unfold all that its line has.
use Rattle.base.specs.Arith.{next_power}
use Rattle.base.specs.Below.{all, first, first_from, sum}
use Rattle.base.specs.Choose.{when}
use Rattle.base.specs.Distinct.{is_new, differ_test}
use Rattle.base.specs.Sifted.{sifted}
use Rattle.base.specs.Written.{written}
use Rattle.delegation_calls.specs.Delegation.{offered_from, with_id, with_room, delegate_out}
use Rattle.manager_calls.specs.Admit.{admitted}
use Rattle.manager_calls.specs.Calls.{create_out, check_out}
use Rattle.notification_calls.specs.Calls.{drain_out}
use Rattle.registry.specs.Children.{child_places_from, child_places, ids_at}
use Rattle.registry.specs.Descent.{descended_from, descent, unrevoked_of, marked}
use Rattle.registry.specs.Holders.{place_of, held}
use Rattle.registry.specs.Registering.{registered, list_given}
use Rattle.registry.specs.Sound.{registry_test}
use Rattle.registry.specs.Words.{children}
use Rattle.request.specs.Lines.{decimal, hex, line_of}
use Rattle.request.specs.Made.{bytes_of, first_word, record_of}
use Rattle.request.specs.Reading.{zero_unread, too_far, verdict_of}
use Rattle.request.specs.Record.{word_from, request_of}
use Rattle.request_run.specs.Run.{drained, called_1_to_5, called_6_to_10, called_11_to_15, called, answered, run_from, whole_run, run_out}
use Rattle.revocation.specs.Log.{log_has, absent_of, appended}
use Rattle.revocation.specs.Queue.{begun, notices_from, notices}
use Rattle.revocation.specs.Sound.{queue_test, log_test}
use Rattle.revocation_calls.specs.Calls.{revoke_held_out}
use Rattle.cascade.specs.Cascade.{revoking}
use Rattle.revocation_calls.specs.Revoking.{revoking_token}
use Rattle.revocation_steps.specs.Revocation.{log_step, notify_step, notify_pids, notify_all, free_queues, new_queues}
use Rattle.space.specs.Change.{inserted, insert_out}
use Rattle.space.specs.Lookup.{exactly, looked_up, counted}
use Rattle.space.specs.Sound.{space_test}
use Rattle.space.specs.Words.{with_counts, with_table}
use Rattle.steps.specs.Enter.{entered_world, entered_space, on_world, on_space}
use Rattle.steps.specs.Steps.{lookup_step, hold_step, insert_step, taken_id, take_step, register_step, list_step, add_step}
use Rattle.table.specs.Insert.{insert_new, placed, made_room, crowded, room_for, rebuilt, place_all, emptied, live_entries}
use Rattle.table.specs.Slots.{entry_at, put_entry}
use Rattle.table.specs.Sound as sound
use Rattle.table.specs.Walk.{home_of, walk, steps_to_stop, steps_to_free, free_for, search}
use Rattle.world.specs.Numbers.{in_range_test}
use Rattle.world.specs.Open.{opening, opened, record_test, open_head, open_space}
use Rattle.world.specs.Regions.{width_of, length_for, start_of, on_each}
use Rattle.world.specs.Sound.{sound_test, head_test, counts_test, ids_test, spaces_test, holders_test, logged_test, queues_test, has_entry, spaces_with}

unfoldable pub base : Unit {0}
unfolding next_power all first first_from sum when is_new differ_test sifted written
base = tt

unfoldable pub walks : Unit {0}
unfolding home_of walk steps_to_stop steps_to_free free_for search sound.sound_test
walks = tt

unfoldable pub inserts : Unit {0}
unfolding entry_at put_entry live_entries emptied place_all rebuilt crowded room_for made_room placed insert_new
inserts = tt

unfoldable pub space : Unit {0}
unfolding exactly looked_up counted with_counts with_table inserted insert_out space_test
space = tt

unfoldable pub registry : Unit {0}
unfolding children place_of held registered list_given child_places_from child_places ids_at descended_from descent unrevoked_of marked
    registry_test
registry = tt

unfoldable pub revocation : Unit {0}
unfolding log_has absent_of appended begun notices_from notices log_test queue_test
revocation = tt

unfoldable pub world : Unit {0}
unfolding width_of length_for start_of on_each in_range_test record_test open_head open_space opened opening
world = tt

unfoldable pub look : Unit {0}
unfolding counts_test head_test ids_test spaces_test has_entry spaces_with holders_test logged_test queues_test sound_test entered_world
    entered_space on_world on_space
look = tt

unfoldable pub steps : Unit {0}
unfolding lookup_step hold_step insert_step taken_id take_step register_step list_step add_step
steps = tt

unfoldable pub cascades : Unit {0}
unfolding log_step notify_step notify_pids notify_all free_queues new_queues
cascades = tt

unfoldable pub calls : Unit {0}
unfolding admitted create_out offered_from with_id with_room delegate_out check_out revoking revoking_token revoke_held_out drain_out
calls = tt

unfoldable pub records : Unit {0}
unfolding bytes_of first_word record_of word_from request_of zero_unread too_far verdict_of
records = tt

unfoldable pub run : Unit {0}
unfolding drained called_1_to_5 called_6_to_10 called_11_to_15 called answered decimal hex line_of run_from whole_run run_out
run = tt
