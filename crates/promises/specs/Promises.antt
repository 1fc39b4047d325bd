-- All that is shown of the definitions, in the order of the demands.
use Rattle.stackmap.specs.Laws.{OneToOne, BuiltRefusal, AcceptedIsZero, SignedOffsets}
use Rattle.index.specs.Laws.{IndexOrdered, IndexAnswers}
use Rattle.linked.specs.Laws as Linked
use Rattle.linked_moves.specs.Laws as LinkedThread
use Rattle.linked_laws.specs.Laws.{FrameByFrame}
use Rattle.listing.specs.Bound.{BoundSuffices}
use Rattle.listing.specs.RoundTrip.{ListingOneToOne, RoundTrips, OutputKept}
use Rattle.relocate.specs.Lists.{Demand3, OrderFree}
use Rattle.relocate.specs.Reorder.{PairOrder}
use Rattle.relocate.specs.Consequences.{Untouched, KeepsCursor, Counts, KeepsDistance, OnlySlotsCount}
use Rattle.relocate_twice.specs.Twice.{TwoMoves, JoinedTables}
use Rattle.relocate_twice.specs.Without.{WithoutSelfPair}
use Rattle.explain.specs.Laws.{Explains}
use Rattle.explain_laws.specs.Tells.{RowsTell}
use Rattle.restores.specs.Laws.{UnderEdition, UnknownEdition}
use Rattle.thread.specs.Theorems.{OneInstant}
use Rattle.replay.specs.Laws.{BrokenFirst, TraceBound, TraceBack, ReplaysRecorded, ReplaysApart}
use Rattle.controller.specs.Laws.{ControllerLaws}
use Rattle.report.specs.Laws as Report
use Rattle.promises.specs.Worked.{WorkedTable}

pub record Promises : Type 0 where
  -- 1: a refused call changes no byte of the image, no register, and no byte of an output
  pub image_untouched : Untouched
  pub output_kept : OutputKept
  -- 2: accepted sections and listings are their data, both round trips give the same bytes, and a move counts its pairs
  pub one_to_one : OneToOne
  pub accepted_is_zero : AcceptedIsZero
  pub signed_offsets : SignedOffsets
  pub listing_one_to_one : ListingOneToOne
  pub bound_suffices : BoundSuffices
  pub built_refusal : BuiltRefusal
  pub round_trips : RoundTrips
  pub counts : Counts
  -- 3: order doesn't count, of moves (with what each move writes) and of pairs
  pub demand3 : Demand3
  pub order_free : OrderFree
  pub pair_order : PairOrder
  -- so it is under one edition: its moves are those of the one restore with its settings; and 31 changes nothing
  pub under_edition : UnderEdition
  pub unknown_edition : UnknownEdition
  -- a whole thread in one call: all frames move, or none does
  pub one_instant : OneInstant
  -- the bench controller: what its profile takes is moved as the base does, all else changes nothing; 12, 15 and 18 are never given
  pub controller : ControllerLaws
  -- an address index is the one order of a section's rows, and with it a lookup gives what the plain walk gives
  pub index_ordered : IndexOrdered
  pub index_answers : IndexAnswers
  -- a linked section: one map is the section itself, each map is accepted, joined they are the section and are cut again; the question by
  -- address is what the maps answer
  pub linked_one_map : Linked.OneMap
  pub linked_each_accepted : Linked.EachAccepted
  pub linked_each_map : Linked.EachMap
  pub linked_joined : Linked.Joined
  pub linked_bound_suffices : Linked.BoundSuffices
  -- a whole thread over a linked section: on one map it is the thread's call, a refused call changes nothing, and an accepted one is the plain moves of
  -- its frames, each by its own map, in any order
  pub linked_thread_one_map : LinkedThread.OneMap
  pub linked_thread_or_none : LinkedThread.OrNone
  pub linked_thread_by_frames : FrameByFrame
  -- a report's totals are sums, or 34 at the first section that passes; order doesn't count, and halves add up
  pub report_sums : Report.Sums
  pub report_stops : Report.Stops
  pub report_order_free : Report.OrderFree
  pub report_halves : Report.Halves
  -- two moves in a row are one with the joined table, and why the self pair is asked for
  pub joined_tables : JoinedTables
  pub two_moves : TwoMoves
  pub without_self_pair : WithoutSelfPair
  -- what the lab is told of a slot is what the move does to it, and the rows of a frame tell it of every slot
  pub explains : Explains
  pub rows_tell : RowsTell
  -- a broken trace is 35 and leaves the image; a trace is read back as it was written, a recorded restore differs in nothing when it is replayed, and
  -- where no two extents share a byte its answers are the plain ones and the order of its frames could be any
  pub broken_first : BrokenFirst
  pub trace_bound : TraceBound
  pub trace_back : TraceBack
  pub replays_recorded : ReplaysRecorded
  pub replays_apart : ReplaysApart
  -- the consequences that are wanted, that no move changes frame and stack pointer, and the worked table
  pub keeps_cursor : KeepsCursor
  pub keeps_distance : KeepsDistance
  pub only_slots_count : OnlySlotsCount
  pub worked : WorkedTable
