-- The numbers of document 02, request 12, each named once: the kinds of items, and their lengths with the kind's byte.
use Rattle.std.specs.Prelude.{ℕ}

-- 1 frame (machine 1, address 8, function number 8, 32 registers of 8)
abbrev pub frame_kind : ℕ
frame_kind = 1

abbrev pub frame_item_size : ℕ
frame_item_size = 274

-- 2 answer (number 1, place or count 8)
abbrev pub answer_kind : ℕ
answer_kind = 2

abbrev pub answer_item_size : ℕ
answer_item_size = 10

-- 3 end (nothing)
abbrev pub end_kind : ℕ
end_kind = 3

abbrev pub end_item_size : ℕ
end_item_size = 1

-- a frame with its answer
abbrev pub step_size : ℕ
step_size = 284
