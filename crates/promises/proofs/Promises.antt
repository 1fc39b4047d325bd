-- All promises hold.
use Rattle.stackmap.proofs.WellFormed
use Rattle.stackmap.proofs.Numbers
use Rattle.index.proofs.Ordered
use Rattle.index.proofs.Same
use Rattle.linked.proofs.Whole
use Rattle.linked.proofs.Found
use Rattle.linked_moves.proofs.OneMap
use Rattle.linked_laws.proofs.ByFrames
use Rattle.listing.proofs.Bound
use Rattle.listing.proofs.RoundTrip
use Rattle.relocate.proofs.Demand
use Rattle.relocate.proofs.Reorder
use Rattle.relocate.proofs.Consequences
use Rattle.relocate_twice.proofs.Twice
use Rattle.relocate_twice.proofs.Without
use Rattle.explain.proofs.Laws
use Rattle.explain_laws.proofs.Tells as Rows
use Rattle.restores.proofs.Editions
use Rattle.thread.proofs.OneInstant
use Rattle.controller.proofs.Laws as controlled
use Rattle.report.proofs.Reports
use Rattle.replay.proofs.Bound as Traces
use Rattle.replay.proofs.Laws as Replays
use Rattle.replay.proofs.Written
use Rattle.replay.proofs.Recording
use Rattle.promises.specs.Promises.{Promises}
use Rattle.promises.proofs.Worked

pub promises : Promises
promises =
    record {
      image_untouched = Consequences.untouched;
      output_kept = RoundTrip.output_kept;
      one_to_one = WellFormed.one_to_one;
      accepted_is_zero = Numbers.accepted_is_zero;
      signed_offsets = Numbers.signed_offsets;
      listing_one_to_one = RoundTrip.listing_one_to_one;
      bound_suffices = Bound.bound_suffices;
      built_refusal = WellFormed.built;
      round_trips = RoundTrip.round_trips;
      counts = Consequences.counts;
      demand3 = Demand.demand3;
      order_free = Demand.order_free;
      pair_order = Reorder.pair_order;
      under_edition = Editions.under_edition;
      unknown_edition = Editions.unknown_edition;
      one_instant = OneInstant.one_instant;
      controller = controlled.controller_laws;
      index_ordered = Ordered.index_ordered;
      index_answers = Same.index_answers;
      linked_one_map = Found.one_map;
      linked_each_accepted = Whole.each_accepted;
      linked_each_map = Found.each_map;
      linked_joined = Whole.joined-whole;
      linked_bound_suffices = Whole.bound_suffices;
      linked_thread_one_map = OneMap.one_map;
      linked_thread_or_none = OneMap.or_none;
      linked_thread_by_frames = ByFrames.frame_by_frame;
      report_sums = Reports.sums;
      report_stops = Reports.report_stops;
      report_order_free = Reports.order_free;
      report_halves = Reports.two_halves;
      joined_tables = Twice.joined_tables;
      two_moves = Twice.two_moves;
      without_self_pair = Without.without_self_pair;
      explains = Laws.explains;
      rows_tell = Rows.rows_tell;
      broken_first = Replays.broken_first;
      trace_bound = Traces.trace_bound;
      trace_back = Written.trace_back;
      replays_recorded = Recording.replays_recorded;
      replays_apart = Replays.replays_apart;
      keeps_cursor = Consequences.keeps_cursor;
      keeps_distance = Consequences.keeps_distance;
      only_slots_count = Consequences.only_slots_count;
      worked = Worked.worked;
    }
