-- A trace that was written is read back.
use Prim.Native.Nat.{ℕ, zero, suc, ◌+◌, ◌*◌, ◌≤◌}
use mathlib.Core.Path.{◌≡◌, refl, sym, ◌∙◌}
use mathlib.Core.Bool.{true}
use mathlib.Core.List.{List, [], ◌∷◌, ◌++◌, append_assoc, append-nil, Memᴰ}
use native.Mathlib.Omega.{arith}
use native.Mathlib.Nat.{add-zero, mul-suc}
use borrow.Author.Tests.{eq-eqb}
use lib.ListN.{length, get_or}
use Rattle.wire.specs.Word.{word}
use Rattle.stackmap.specs.Fields.{◌of◌, bytes_of, size, all}
use Rattle.stackmap.proofs.Fields.{Has, length-bytes_of, size-append, size-all, fields_back, split, fit_join, fit_each, many-back}
use Rattle.stackmap.proofs.Items.{byte_word}
use Rattle.listing.proofs.Items.{kind_byte, yes_item, other-kind}
use Rattle.editions_settings.specs.Machine.{machine_known, machine_of}
use Rattle.relocate.specs.declared.Machine.{Machine}
use Rattle.relocate.specs.declared.Machine.TheVariants.{Amd64, Aarch64}
use Rattle.relocate.specs.Stopped.{Stopped}
use Rattle.replay.specs.declared.Recorded.{Recorded}
use Rattle.replay.specs.Trace.{frame_at, registers_at, recorded_at, Step, step_at, whole, frame_stands, answer_stands, end_stands, trace_from, trace}
use Rattle.replay.specs.Trace.{machine_number, register_field, frame_item, answer_item, step_items, end_item, trace_of}
use Rattle.replay.specs.Laws.{Recordable, TraceBack}

-- sizes

registers-size : (rs : List ℕ) → size (all register_field rs) ≡ 8 * length rs
unfolding size
registers-size rs = size-all register_field 8 (λ v. refl) rs

frame-size : (f : Stopped) → length f.registers ≡ 32 → size (frame_item f) ≡ 274
unfolding frame_item size
frame-size f h = rw (registers-size f.registers, h)

answer-size : (r : Recorded) → size (answer_item r) ≡ 10
unfolding answer_item size
answer-size r = refl

step_size_lem : (s : Step) → Recordable s → size (step_items s) ≡ 284
unfolding step_items
step_size_lem s k = rw (size-append, frame-size s.frame k.registers_right, answer-size s.recorded)

-- machines

machine-back : (m : Machine) → machine_of (machine_number m) ≡ m
machine-back Amd64 = refl
machine-back Aarch64 = refl

machine-known : (m : Machine) → machine_known (machine_number m) ≡ true
machine-known Amd64 = refl
machine-known Aarch64 = refl

-- one step

module _ (t : List ℕ) (at : ℕ) (s : Step) (k : Recordable s) (h : Has t at (step_items s)) where
  frame_has : Has t at (frame_item s.frame)
  unfolding step_items
  frame_has = (split t at (at + 274) (frame_item s.frame) (answer_item s.recorded) (rw (frame-size s.frame k.registers_right)) h).0

  answer-has : Has t (at + 274) (answer_item s.recorded)
  unfolding step_items
  answer-has = (split t at (at + 274) (frame_item s.frame) (answer_item s.recorded) (rw (frame-size s.frame k.registers_right)) h).1

  machine_byte : get_or t (at + 1) 0 ≡ machine_number s.frame.frame.machine
  unfolding frame_item
  machine_byte = sym (byte_word t (at + 1)) ∙ frame_has.1.0

  number_byte : get_or t (at + 274 + 1) 0 ≡ s.recorded.number
  unfolding answer_item
  number_byte = sym (byte_word t (at + 274 + 1)) ∙ answer-has.1.0

  frame-stands : at + 284 ≤ length t → frame_stands t at ≡ true
  unfolding frame_stands frame_item
  frame-stands l = rw (yes_item 1 274 t at (omega arith) (kind_byte t at 1 frame_has.0), machine_byte) (machine-known s.frame.frame.machine)

  answer-stands : at + 284 ≤ length t → answer_stands t (at + 274) ≡ true
  unfolding answer_stands answer_item
  answer-stands l = yes_item 2 10 t (at + 274) (omega arith) (kind_byte t (at + 274) 2 answer-has.0)

  registers-has : Has t (at + 18) (all register_field s.frame.registers)
  unfolding frame_item size
  registers-has =
      (split t at (at + 18) ((1 of 1) ∷ (1 of machine_number s.frame.frame.machine) ∷ (8 of s.frame.frame.address) ∷ (8 of s.frame.frame.function) ∷ [])
      (all register_field s.frame.registers) refl frame_has).1

  registers-back : registers_at t at ≡ s.frame.registers
  unfolding registers_at size
  registers-back =
      rw (← k.registers_right)
      (many-back register_field (word 8) 8 (λ v. refl) t (λ v p g. rw add-zero at g.0) s.frame.registers (at + 18) registers-has)

  frame_back : frame_at t at ≡ s.frame.frame
  unfolding frame_at frame_item
  frame_back = rw (machine_byte, machine-back s.frame.frame.machine, frame_has.1.1.0, frame_has.1.1.1.0)

  recorded-back : recorded_at t (at + 274) ≡ s.recorded
  unfolding recorded_at answer_item
  recorded-back = rw (number_byte, answer-has.1.1.0)

  step_back : step_at t at ≡ s
  unfolding step_at
  step_back = rw (frame_back, registers-back, recorded-back)

-- all steps, and the end

end_back : (t : List ℕ) (at n : ℕ) → Has t at end_item → length t ≡ at + 1 → trace_from t (suc n) at ≡ whole []
unfolding trace_from frame_stands end_stands
end_back t at n h l =
    let b = kind_byte t at 3 h.0 in
    rw (other-kind 1 274 t at (λ q. let z : ◌≡◌ {A = ℕ} 3 1 = sym b ∙ q in omega arith), yes_item 3 1 t at (omega arith) b, eq-eqb (at + 1) (length t) (sym l))

steps_back : (t : List ℕ) (xs : List Step) (at n : ℕ) → ((s : Step) → Memᴰ s xs → Recordable s) → Has t at (all step_items xs ++ end_item)
    → length t ≡ at + 284 * length xs + 1 → length xs ≤ n → trace_from t (suc n) at ≡ whole xs
unfolding all trace_from
steps_back t [] at n k h l m = end_back t at n h (omega arith)
steps_back t (x ∷ xs) at zero k h l m = absurd (omega arith)
steps_back t (x ∷ xs) at (suc n) k h l m =
    let kx = k x (Memᴰ.head refl) in
    let g = split t at (at + 284) (step_items x) (all step_items xs ++ end_item) (rw (step_size_lem x kx)) (rw append_assoc at h) in
    let ls : 284 * suc (length xs) ≡ 284 * length xs + 284 = mul-suc 284 (length xs) in
    let room : at + 284 ≤ length t = omega arith in
    rw (
      frame-stands t at x kx g.0 room,
      answer-stands t at x kx g.0 room,
      step_back t at x kx g.0,
      steps_back t xs (at + 284) n (λ s i. k s (Memᴰ.tail i)) g.1 (omega arith) (omega arith),
    )

each-size : (xs : List Step) → ((s : Step) → Memᴰ s xs → Recordable s) → size (all step_items xs) ≡ 284 * length xs
unfolding all size
each-size [] k = refl
each-size (x ∷ xs) k =
    rw (size-append, step_size_lem x (k x (Memᴰ.head refl)), each-size xs (λ s i. k s (Memᴰ.tail i)), mul-suc) (omega arith)

pub trace_back : TraceBack
unfolding trace trace_of size
trace_back ss k =
    let fs = all step_items ss ++ end_item in
    let e : length (bytes_of fs) ≡ 284 * length ss + 1 = length-bytes_of fs ∙ size-append (all step_items ss) end_item ∙ rw (each-size ss k) in
    let fit = fit_join (all step_items ss) end_item (fit_each step_items ss (λ s i. (k s i).fits)) (omega arith, tt) in
    steps_back (bytes_of fs) ss 0 (length (bytes_of fs)) k (fields_back (bytes_of fs) 0 0 fs [] fit (sym (append-nil (bytes_of fs)))) (omega arith) (omega arith)
