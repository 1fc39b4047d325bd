-- The worked sections hold, by computation.
use mathlib.Core.Path.{refl}
use mathlib.Core.List.{flatten}
use Rattle.wire.specs.Word.{word, bytes}
use Rattle.stackmap.specs.Verdict.{must, chain, bind, pick, shift}
use Rattle.stackmap.specs.Fields.{bytes_of, size, all, many}
use Rattle.stackmap.specs.Section.{function_fields, constant_fields, location_fields, live_out_fields, record_fields, section_fields, encode_section}
use Rattle.stackmap.specs.Section.{read_function, read_constant, read_location, read_live_out, record_length, read_record, read_records, read_functions}
use Rattle.stackmap.specs.Section.{read_section, owners, record_owners, counted, address, entries_from, entries_of, entries}
use Rattle.stackmap.specs.Record.{zeros, location_zeros, pool_check, location_check, locations, live_outs, record_inside, record_bytes, address_right, record_check}
use Rattle.stackmap.specs.Check.{first_outside, counts_right, header_check, tables_check, records_check, walk_check, section_check}
use Rattle.questions.specs.Questions.{constant_of}
use Rattle.relocate.specs.Statepoint.{deopt_count, constant_head, paired_rest, is_statepoint, pair_up, pairs, is_zero, is_null, size_right, pointers_in, is_frame_or_stack, is_memory_slot, is_register_slot, is_slot, same_size, right_form, pointers_of}
use Rattle.relocate.specs.Statepoint.{register_of, slot_address, is_register, slot_at}
use Rattle.stackmap.specs.Section.{as_offset}
use Rattle.relocate.specs.Restore.{same_machine}
use Rattle.controller.specs.Profile.{passes18, pointer_count, keeps, first_breach, profile_check}
use Rattle.controller.specs.Worked.{rising, section_of, rows, works_out, WorkedProfile}

pub worked_profile : WorkedProfile
unfolding word bytes must chain bind pick shift bytes_of size all many function_fields constant_fields location_fields live_out_fields
    record_fields section_fields encode_section read_function read_constant read_location read_live_out record_length read_record read_records
    read_functions read_section owners record_owners counted zeros location_zeros pool_check location_check locations live_outs record_inside
    record_bytes address_right record_check first_outside counts_right header_check tables_check records_check walk_check section_check address entries_from
    entries_of entries constant_of deopt_count constant_head paired_rest is_statepoint pair_up pairs is_zero is_null size_right pointers_in is_frame_or_stack is_memory_slot
    is_register_slot is_slot same_size right_form pointers_of register_of slot_address is_register slot_at as_offset flatten same_machine passes18 pointer_count keeps first_breach profile_check
    rising section_of rows works_out
worked_profile = refl
