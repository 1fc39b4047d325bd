-- An accepted section's bytes are the bytes of what is read from it.
use Prim.Native.Nat.{ℕ, ◌+◌, ◌*◌, ◌-◌}
use mathlib.Core.Path.{◌≡◌, refl, sym, ap, ◌∙◌}
use mathlib.Core.Bool.{true}
use mathlib.Core.List.{List, ◌++◌, append_assoc, append-nil}
use native.Mathlib.Omega.{arith}
use lib.ListN.{length, drop}
use lib.Seq.{drop-length}
use Rattle.wire.specs.Word.{Bytes, word, bytes}
use Rattle.flat.specs.Places.{frames_at, registers_at, records_at, locations_at, live_outs_at, num_constants, num_frames, num_registers}
use Rattle.flat.specs.Places.{num_records, num_locations, num_live_outs}
use Rattle.flat.proofs.Steps.{and_true}
use Rattle.flat.proofs.Arrays.{Right, right-told, Arranged, arranged}
use Rattle.flat.specs.Places.{clear}
use Rattle.flat_check.specs.Check.{registers_end, records_end, reserved_clear}
use Rattle.flat_check.proofs.Chain.{Told, accepted-told}
use Rattle.flat_data.specs.Data.{read_constant, read_frame, read_register, read_record, read_location, read_live_out, many, read_section}
use Rattle.flat_data.specs.Data.{constant_bytes, frame_bytes, register_bytes, record_bytes, location_bytes, live_out_bytes, all, frames_start}
use Rattle.flat_data.specs.Data.{registers_start, registers_stop, records_start, records_stop, locations_start, live_outs_start, header_bytes}
use Rattle.flat_data.specs.Data.{encode_section}
use Rattle.flat_data.specs.Laws.{Determined}
use Rattle.flat_data.proofs.Fronts.{front, zero_front, padding, reserved, constant_front, frame_front, register_front, record_front}
use Rattle.flat_data.proofs.Fronts.{location_front, live_out_front, all_front, length-many}

module _ (s : List ℕ) (w : Bytes s) (t : Told s) where
  right : Right s
  right = right-told s t.offsets

  arr : Arranged s
  arr = arranged s right

  -- padding and reserved bytes
  record Cleared : Type 0 where
    header_bytes : clear s 1 1 1 3 ≡ true
    after_header : clear s 1 28 1 4 ≡ true
    after-registers : clear s 1 (registers_end s) 1 (records_at s - registers_end s) ≡ true
    after-records : clear s 1 (records_end s) 1 (locations_at s - records_end s) ≡ true
    locations : clear s 1 (locations_at s + 1) 8 (num_locations s) ≡ true
    live-outs : clear s 1 (live_outs_at s + 2) 4 (num_live_outs s) ≡ true

  cleared : Cleared
  unfolding reserved_clear
  cleared =
      let h₁ = and_true _ _ t.reserved in
      let h₂ = and_true _ _ h₁.0 in
      let h₃ = and_true _ _ h₂.0 in
      let h₄ = and_true _ _ h₃.0 in
      let a = and_true (clear s 1 1 1 3) (clear s 1 28 1 4) h₄.0 in
      let b = and_true (clear s 2 (registers_at s + 5) 6 (num_registers s)) (clear s 1 (registers_end s) 1 (records_at s - registers_end s)) h₃.1 in
      let c = and_true (clear s 2 (records_at s + 13) 22 (num_records s)) (clear s 1 (records_end s) 1 (locations_at s - records_end s)) h₂.1 in
      let d = and_true (clear s 1 (locations_at s + 1) 8 (num_locations s)) (clear s 1 (live_outs_at s + 2) 4 (num_live_outs s)) h₁.1 in
      record { header_bytes = a.0; after_header = a.1; after-registers = b.1; after-records = c.1; locations = d.0; live-outs = d.1 }

  -- Where the arrays of what is read begin.

  frames-start : frames_start (read_section s) ≡ frames_at s
  unfolding frames_start read_section
  frames-start = rw (length-many read_constant 8 (num_constants s) s 32) (omega (arith, arr.frames))

  registers-start : registers_start (read_section s) ≡ registers_at s
  unfolding registers_start read_section
  registers-start = rw (frames-start, length-many read_frame 28 (num_frames s) s (frames_at s)) (omega (arith, arr.registers))

  registers_stop_lem : registers_stop (read_section s) ≡ registers_end s
  unfolding registers_stop read_section
  registers_stop_lem = rw (registers-start, length-many read_register 6 (num_registers s) s (registers_at s))

  records-start : records_start (read_section s) ≡ records_at s
  unfolding records_start
  records-start = rw registers_stop_lem (sym right.records)

  records_stop_lem : records_stop (read_section s) ≡ records_end s
  unfolding records_stop read_section
  records_stop_lem = rw (records-start, length-many read_record 22 (num_records s) s (records_at s))

  locations-start : locations_start (read_section s) ≡ locations_at s
  unfolding locations_start
  locations-start = rw records_stop_lem (sym right.locations)

  live_outs-start : live_outs_start (read_section s) ≡ live_outs_at s
  unfolding live_outs_start read_section
  live_outs-start = rw (locations-start, length-many read_location 8 (num_locations s) s (locations_at s)) (omega (arith, arr.live-outs))

  -- Each part, from the last to the first.

  live_outs-part : all live_out_bytes (many read_live_out 4 (num_live_outs s) s (live_outs_at s)) ≡ drop (live_outs_at s) s
  live_outs-part =
      let h = all_front s w read_live_out live_out_bytes 4 (num_live_outs s) (live_outs_at s) (length s) arr.end (omega arith) (λ i l m. live_out_front s w _
      (let p : live_outs_at s + 2 + 4 * i ≡ live_outs_at s + 4 * i + 2 = omega arith in rw p at (reserved s w (live_outs_at s + 2) 4 (num_live_outs s) cleared.live-outs i l)) m) in
      rw (drop-length s, append-nil) at h

  locations-part : all location_bytes (many read_location 8 (num_locations s) s (locations_at s)) ++ drop (live_outs_at s) s ≡ drop (locations_at s) s
  locations-part =
      all_front s w read_location location_bytes 8 (num_locations s) (locations_at s) (live_outs_at s) arr.live-outs (omega (arith, arr.end))
      (λ i l m. location_front s w _ (let p : locations_at s + 1 + 8 * i ≡ locations_at s + 8 * i + 1 = omega arith in rw p at (reserved s w (locations_at s + 1) 8 (num_locations s) cleared.locations i l)) m)

  records-padding : bytes (locations_at s - records_end s) 0 ++ drop (locations_at s) s ≡ drop (records_end s) s
  records-padding =
      zero_front s w (locations_at s - records_end s) (records_end s) (locations_at s) (padding s w (records_end s) (locations_at s - records_end s) cleared.after-records)
      (omega (arith, arr.locations)) (omega (arith, arr.live-outs, arr.end))

  records-part : all record_bytes (many read_record 22 (num_records s) s (records_at s)) ++ drop (records_end s) s ≡ drop (records_at s) s
  records-part =
      all_front s w read_record record_bytes 22 (num_records s) (records_at s) (records_end s) refl (omega (arith, arr.locations, arr.live-outs, arr.end)) (λ i l m. record_front s w _ m)

  registers-padding : bytes (records_at s - registers_end s) 0 ++ drop (records_at s) s ≡ drop (registers_end s) s
  registers-padding =
      zero_front s w (records_at s - registers_end s) (registers_end s) (records_at s) (padding s w (registers_end s) (records_at s - registers_end s) cleared.after-registers)
      (omega (arith, arr.records)) (omega (arith, arr.locations, arr.live-outs, arr.end))

  registers-part : all register_bytes (many read_register 6 (num_registers s) s (registers_at s)) ++ drop (registers_end s) s ≡ drop (registers_at s) s
  registers-part =
      all_front s w read_register register_bytes 6 (num_registers s) (registers_at s) (registers_end s) refl (omega (arith, arr.records, arr.locations, arr.live-outs, arr.end)) (λ i l m. register_front s w _ m)

  frames-part : all frame_bytes (many read_frame 28 (num_frames s) s (frames_at s)) ++ drop (registers_at s) s ≡ drop (frames_at s) s
  frames-part =
      all_front s w read_frame frame_bytes 28 (num_frames s) (frames_at s) (registers_at s) arr.registers (omega (arith, arr.records, arr.locations, arr.live-outs, arr.end)) (λ i l m. frame_front s w _ m)

  constants-part : all constant_bytes (many read_constant 8 (num_constants s) s 32) ++ drop (frames_at s) s ≡ drop 32 s
  constants-part =
      all_front s w read_constant constant_bytes 8 (num_constants s) 32 (frames_at s) arr.frames (omega (arith, arr.registers, arr.records, arr.locations, arr.live-outs, arr.end)) (λ i l m. constant_front s w _ m)

  version-word : word 1 s 0 ≡ 2
  unfolding word
  version-word = let v = t.version in omega arith

  version-part : bytes 1 2 ++ drop 1 s ≡ drop 0 s
  version-part = let l = t.least in rw version-word at (front s w 1 0 1 refl (omega arith))

  header_part : header_bytes (read_section s) ++ drop 32 s ≡ drop 0 s
  unfolding header_bytes
  header_part =
      let l = t.least in
      let c : bytes 4 32 ++ drop 8 s ≡ drop 4 s = rw right.constants at (front s w 4 4 8 refl (omega arith)) in
      rw (frames-start, registers-start, records-start, locations-start, live_outs-start)
      (simp append_assoc
      (rw (
        zero_front s w 4 28 32 (padding s w 28 4 cleared.after_header) refl l,
        front s w 4 24 28 refl (omega arith),
        front s w 4 20 24 refl (omega arith),
        front s w 4 16 20 refl (omega arith),
        front s w 4 12 16 refl (omega arith),
        front s w 4 8 12 refl (omega arith),
        c,
        zero_front s w 3 1 4 (padding s w 1 3 cleared.header_bytes) refl (omega arith),
        version-part,
      )))

  pub whole : encode_section (read_section s) ≡ s
  unfolding encode_section read_section
  whole =
      rw (records-start, locations-start, registers_stop_lem, records_stop_lem)
      (simp append_assoc
      (rw (
        live_outs-part,
        locations-part,
        records-padding,
        records-part,
        registers-padding,
        registers-part,
        frames-part,
        constants-part,
        header_part,
      )))

pub determined : Determined
determined =
    record {
      encode_read = λ s w a. whole s w (accepted-told s a);
      one_to_one = λ s t v w a b e. sym (whole s v (accepted-told s a)) ∙ ap encode_section e ∙ whole t w (accepted-told t b);
    }
