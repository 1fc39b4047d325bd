-- The claim fails without the self pair, by computation.
use mathlib.Core.Path.{refl}
use mathlib.Core.List.{flatten}
use Rattle.wire.specs.Word.{word, bytes}
use Rattle.stackmap.specs.Verdict.{must, chain, bind, pick, shift}
use Rattle.stackmap.specs.Fields.{bytes_of, size, all, many}
use Rattle.stackmap.specs.Section.{function_fields, constant_fields, location_fields, live_out_fields, record_fields, section_fields, encode_section}
use Rattle.stackmap.specs.Section.{read_function, read_constant, read_location, read_live_out, record_length, read_record, read_records, read_functions}
use Rattle.stackmap.specs.Section.{read_section, owners, record_owners, counted, address, entries_from, entries_of, entries}
use Rattle.stackmap.specs.Record.{zeros, location_zeros, pool_check, location_check, locations, live_outs, record_inside, record_bytes, address_right, record_check}
use Rattle.stackmap.specs.Check.{first_outside, counts_right, header_check, tables_check, records_check, walk_check, section_check}
use Rattle.questions.specs.Questions.{ask, with_address, at_offset, of_function, sought, constant_of}
use Rattle.moves.specs.Window.{splice}
use Rattle.moves.specs.Search.{lowest}
use Rattle.moves.specs.Table.{rising, no_zero, table_right, look_up}
use Rattle.moves.specs.Slots
use Rattle.moves.specs.Pointers
use Rattle.moves.specs.Settle.{at_lowest, first20, first21, settled, settle}
use Rattle.moves.specs.Plan.{pair_of}
use Rattle.relocate.specs.Statepoint.{deopt_count, constant_head, paired_rest, is_statepoint, pair_up, pairs, is_zero, is_null, size_right, pointers_in, is_frame_or_stack, is_memory_slot, is_register_slot, is_slot, same_size, right_form}
use Rattle.relocate.specs.Statepoint.{register_of, slot_address, is_register, slots_inside, slot_at, inside, pointers_of}
use Rattle.stackmap.specs.Section.{as_offset}
use Rattle.relocate.specs.Plan.{records_of, only, every, image_right, extent_right, plan_pairs, plan_record, plan}
use Rattle.relocate.specs.Relocation.{answer, moved, moved_registers}
use Rattle.relocate.specs.Restore.{same_machine, allowed}
use Rattle.relocate.specs.Stopped.{registers_right, cursor}
use Rattle.relocate_twice.specs.Without.{WithoutSelfPair, SecondRefused, ImagesDiffer}

second_refused : SecondRefused
unfolding word bytes must chain bind pick shift bytes_of size all many function_fields constant_fields location_fields live_out_fields
    record_fields section_fields encode_section read_function read_constant read_location read_live_out record_length read_record read_records
    read_functions read_section owners record_owners counted zeros location_zeros pool_check location_check locations live_outs record_inside
    record_bytes address_right record_check first_outside counts_right header_check tables_check records_check walk_check section_check address entries_from
    entries_of entries ask with_address at_offset of_function sought constant_of splice lowest rising no_zero table_right look_up Slots.same Slots.overlap
    Pointers.any_overlap Pointers.slots_clash Pointers.clash Pointers.new_derived Pointers.new_content at_lowest first20 first21 settled settle
    deopt_count constant_head paired_rest is_statepoint pair_up pairs is_zero is_null size_right pointers_in is_frame_or_stack is_memory_slot is_register_slot is_slot
    same_size right_form register_of as_offset slot_address is_register slots_inside slot_at inside flatten pointers_of pair_of records_of only every image_right
    extent_right plan_pairs plan_record same_machine allowed registers_right cursor plan answer moved moved_registers
second_refused = record { first_accepted = refl; second_refused = refl; joined_accepted = refl }

images_differ : ImagesDiffer
unfolding word bytes must chain bind pick shift bytes_of size all many function_fields constant_fields location_fields live_out_fields
    record_fields section_fields encode_section read_function read_constant read_location read_live_out record_length read_record read_records
    read_functions read_section owners record_owners counted zeros location_zeros pool_check location_check locations live_outs record_inside
    record_bytes address_right record_check first_outside counts_right header_check tables_check records_check walk_check section_check address entries_from
    entries_of entries ask with_address at_offset of_function sought constant_of splice lowest rising no_zero table_right look_up Slots.same Slots.overlap
    Pointers.any_overlap Pointers.slots_clash Pointers.clash Pointers.new_derived Pointers.new_content at_lowest first20 first21 settled settle
    deopt_count constant_head paired_rest is_statepoint pair_up pairs is_zero is_null size_right pointers_in is_frame_or_stack is_memory_slot is_register_slot is_slot
    same_size right_form register_of as_offset slot_address is_register slots_inside slot_at inside flatten pointers_of pair_of records_of only every image_right
    extent_right plan_pairs plan_record same_machine allowed registers_right cursor plan answer moved moved_registers
images_differ = record { first_accepted = refl; second_accepted = refl; joined_accepted = refl; two_leave = refl; one_leaves = refl }

pub without_self_pair : WithoutSelfPair
without_self_pair = record { second_refused = second_refused; images_differ = images_differ }
