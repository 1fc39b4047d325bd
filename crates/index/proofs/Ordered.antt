-- The index is the one order of a section's rows in which each precedes those after it.
use Prim.Native.Nat.{ℕ, ◌*◌, ◌+◌, ◌<◌}
use mathlib.Core.Path.{◌≡◌, refl, sym, ap, ◌∙◌}
use mathlib.Core.Bool.{Bool, true, false, true≢false}
use mathlib.Core.List.Permᴰ
use mathlib.Core.List.{List, [], ◌∷◌, map, Memᴰ}
use native.Mathlib.Omega.{arith}
use native.Mathlib.Decide.{dec_lt}
use Rattle.wire.specs.Word.{Bytes}
use Rattle.wire.proofs.Laws.{word_bound}
use Rattle.stackmap.specs.Section.{num_records, entries}
use Rattle.sorted_pairs.proofs.All.{perm_mem, all_found}
use Rattle.index.specs.Rows.{Row, precedes, ordered, flat}
use Rattle.index.specs.Numbered.{Numbered}
use Rattle.index.specs.Index.{row_of, index_of}
use Rattle.index.specs.Laws.{Ascending, RowsInOrder, IndexOrdered}
use Rattle.index.proofs.Index.{rank, Rises, Small, before_true, before_false, one_list, ordered_mem, ordered-has, ordered-length, ordered-rises, numbered-small, numbered_different}
use Rattle.index.proofs.Numbers.{section-numbered}

rises_ascend : (xs : List Row) → Small xs → Rises xs → Ascending xs
rises_ascend [] s u = tt
rises_ascend (x ∷ xs) s u =
    ((λ y m. before_true x y (s x (Memᴰ.head refl)) (s y (Memᴰ.tail m)) (u.0 y m)), rises_ascend xs (λ y m. s y (Memᴰ.tail m)) u.1)

ascend_rises : (xs : List Row) → Small xs → Ascending xs → Rises xs
ascend_rises [] s u = tt
ascend_rises (x ∷ xs) s u = ((λ y m. go y m (dec_lt (rank x) (rank y))), ascend_rises xs (λ y m. s y (Memᴰ.tail m)) u.1)
  where
    go : (y : Row) → Memᴰ y xs → Dec (rank x < rank y) → rank x < rank y
    go y m (yes l) = l
    go y m (no l) = absurd (true≢false (sym (u.0 y m) ∙ before_false x y (s x (Memᴰ.head refl)) (s y (Memᴰ.tail m)) (omega arith)))

module _ (s : List ℕ) (b : Bytes s) where
  abbrev rows : List Row
  rows = map row_of (entries s)

  numbered : Numbered 0 rows
  numbered = section-numbered s (word_bound 4 s 12 b)

  here : RowsInOrder s (ordered rows)
  here =
      record {
        one_a_record = all_found rows (ordered rows) (numbered_different 0 rows numbered) (λ x m. ordered-has x rows m) (ordered-length rows);
        ascending = rises_ascend (ordered rows) (λ x m. numbered-small 0 rows numbered x (ordered_mem x rows m)) (ordered-rises 0 rows numbered);
      }

  only : (xs : List Row) → RowsInOrder s xs → ordered rows ≡ xs
  only xs r =
      let back : (x : Row) → Memᴰ x xs → Memᴰ x rows = λ x m. perm_mem (Permᴰ.symm r.one_a_record) m in
      let u = ascend_rises xs (λ x m. numbered-small 0 rows numbered x (back x m)) r.ascending in
      one_list (ordered rows) xs (ordered-rises 0 rows numbered) u (λ x m. perm_mem r.one_a_record (ordered_mem x rows m)) (λ x m. ordered-has x rows (back x m))

pub index_ordered : IndexOrdered
unfolding index_of
index_ordered =
    record {
      is_one = λ s b. (ordered (map row_of (entries s)), here s b, refl);
      only_one = λ s b xs r. ap flat (only s b xs r);
    }
