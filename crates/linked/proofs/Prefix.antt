-- The heart of it: what the check accepts up to p, it accepts up to p of any list that agrees below p. So the first p bytes of a list that
-- gets 9 at p are a map, with the same entries; and a map with bytes after it gets 9 at its end.
use Prim.Native.Nat.{ℕ, ◌+◌, ◌-◌, ◌≤◌, ◌<◌}
use mathlib.Core.Path.{◌≡◌, refl, sym, ap, ◌∙◌}
use mathlib.Core.Bool.{Bool, true, false}
use mathlib.Core.List.{List, [], ◌∷◌, ◌++◌}
use native.Mathlib.Omega.{arith}
use borrow.Author.Tests.{le-leb, leb-true, eq-eqb, ne_eqb, eqb-false}
use lib.Dec.{eqb}
use lib.ListN.{length, get_or, take, drop, length-drop, length-append, get_or-append}
use lib.Seq.{length-take-le, get_or-take}
use Rattle.stackmap.specs.Verdict.{Verdict}
use Rattle.stackmap.specs.Verdict.{Valid, Refused}
use Rattle.stackmap.specs.Layout.{function_size}
use Rattle.stackmap.specs.Verdict.{must, chain, bind, shift}
use Rattle.stackmap.specs.Section.{num_functions, num_constants, num_records, is_old, constants_at, records_at, record_length, read_function, read_functions, read_records, Owner, entries}
use Rattle.stackmap.specs.Record.{zeros, record_check}
use Rattle.stackmap.specs.Check.{version_right, header_check, counts_right, tables_check, records_check, walk_check, section_check, Accepted}
use Rattle.stackmap.proofs.Numbers.{Numbered, n_valid, n_must, n_shift}
use Rattle.stackmap.proofs.Verdicts.{must-held, must-rest, chain_first, chain-rest, bind-first, shift-valid}
use Rattle.stackmap.proofs.Within.{is-inside, walk_within}
use Rattle.stackmap.proofs.Back.{owners_enough}
use Rattle.stackmap.proofs.Forth.{ends}
use Rattle.stackmap.proofs.Turns.{all_owners}
use Rattle.stackmap.proofs.Entries.{entries-are}
use Rattle.linked.proofs.Agree.{Agree, agree_self, agree_drop, agree_word, agree_many, alike_zeros, function-same, length-same, record_same, alike_record, record_low}

-- The walk over the records.

-- a valid walk passes its first record, which ends where its length says, and goes on from there
walk_step : (old : Bool) (o : Owner) (os : List Owner) (s : List ℕ) (c at e : ℕ) → records_check old (o ∷ os) s c at ≡ Valid e
    → (record_check old (drop at s) c o.function.address ≡ Valid (record_length old (drop at s)))
    × (records_check old os s c (at + record_length old (drop at s)) ≡ Valid e)
unfolding records_check
walk_step old o os s c at e h =
    let b = bind-first _ _ _ h in
    let f = shift-valid _ _ _ b.1 in
    let d = ends old (drop at s) c o.function.address _ f.1 in
    (rw d at f.1, rw (f.2, d) at b.2)

walk_up : (old : Bool) (os : List Owner) (s : List ℕ) (c at e : ℕ) → records_check old os s c at ≡ Valid e → at ≤ e
walk_up old [] s c at e h = unfold records_check in (let z : at ≡ e = cc in omega arith)
walk_up old (o ∷ os) s c at e h =
    let i = walk_up old os s c (at + record_length old (drop at s)) e (walk_step old o os s c at e h).1 in
    omega arith

bind-low : (a : Verdict) (k : ℕ → Verdict) → Numbered 8 a → ((e : ℕ) → Numbered 8 (k e)) → Numbered 8 (bind a k)
unfolding bind
bind-low (Valid e) k h w = w e
bind-low (Refused n p) k h w = h

pub walk_low : (old : Bool) (os : List Owner) (s : List ℕ) (c at : ℕ) → Numbered 8 (records_check old os s c at)
unfolding records_check
walk_low old [] s c at = n_valid at
walk_low old (o ∷ os) s c at = bind-low _ _ (n_shift at _ (record_low old (drop at s) c o.function.address)) (λ e. walk_low old os s c e)

module _ (p : ℕ) (s t : List ℕ) (g : Agree p s t) (old : Bool) (c : ℕ) where
  -- the records of both lists at `at`, where s has a valid one that ends below p
  here : (at : ℕ) → at + record_length old (drop at s) ≤ p → Agree (record_length old (drop at s)) (drop at s) (drop at t)
  here at h = agree_drop at (record_length old (drop at s)) p s t g h

  walk_alike : p ≤ length t → (os : List Owner) (at : ℕ) → records_check old os s c at ≡ Valid p → records_check old os t c at ≡ Valid p
  unfolding records_check shift bind record_check
  walk_alike l [] at h = h
  walk_alike l (o ∷ os) at h =
      let w = walk_step old o os s c at p h in
      let u = walk_up old os s c _ p w.1 in
      let i = is-inside old (drop at s) _ (chain_first _ _ _ w.0).1 in
      let d = length-drop at t in
      let a = (alike_record old (drop at s) (drop at t) (here at u) c o.function.address i (omega arith)).same in
      rw (← a, w.0) (walk_alike l os (at + record_length old (drop at s)) w.1)

  records_alike : (os : List Owner) (at : ℕ) → records_check old os s c at ≡ Valid p → read_records old (length os) s at ≡ read_records old (length os) t at
  unfolding read_records
  records_alike [] at h = refl
  records_alike (o ∷ os) at h =
      let w = walk_step old o os s c at p h in
      let u = walk_up old os s c _ p w.1 in
      rw (record_same old (drop at s) (drop at t) (here at u), length-same old (drop at s) (drop at t) (here at u), records_alike os _ w.1)

-- The section.

-- what the check has found when it comes to the end of the last record, at p
pub record Walked (s : List ℕ) (p : ℕ) : Type 0 where
  pub version : version_right (get_or s 0 0) ≡ true
  pub reserved : (e : ℕ) × (zeros 3 s 1 ≡ Valid e)
  pub counts : counts_right (is_old s) (read_functions s) (num_records s) ≡ true
  pub records : records_check (is_old s) (all_owners s) s (num_constants s) (records_at s) ≡ Valid p

-- header and tables lie before it
pub walked_least : (s : List ℕ) (p : ℕ) → Walked s p → records_at s ≤ p
walked_least s p w = walk_up (is_old s) (all_owners s) s (num_constants s) (records_at s) p w.records

walked_of : (s : List ℕ) (a b p : ℕ) → header_check s ≡ Valid a → tables_check s ≡ Valid b → records_check (is_old s) (all_owners s) s (num_constants s) (records_at s) ≡ Valid p → Walked s p
unfolding header_check tables_check
walked_of s a b p h k r =
    let h₂ = must-rest _ _ _ _ _ (must-rest _ _ _ _ _ h) in
    let k₂ = must-rest _ _ _ _ _ (must-rest _ _ _ _ _ k) in
    record { version = must-held _ _ _ _ _ h₂; reserved = (a, must-rest _ _ _ _ _ h₂); counts = must-held _ _ _ _ _ k₂; records = r }

-- all that is left is 9
pub walked_check : (s : List ℕ) (p : ℕ) → Walked s p → p ≤ length s → length s ≤ 16777216 → section_check s ≡ must (eqb p (length s)) 9 p (Valid p)
unfolding section_check header_check tables_check walk_check chain bind must
walked_check s p w h l =
    let u = walked_least s p w in
    let i : 16 ≤ length s = omega arith in
    let f : constants_at s ≤ length s = omega arith in
    let k : records_at s ≤ length s = omega arith in
    rw (le-leb 16 (length s) i, le-leb (length s) 16777216 l, w.version, w.reserved.1, le-leb (constants_at s) (length s) f, le-leb (records_at s) (length s) k, w.counts, w.records)

pub header_low : (s : List ℕ) → Numbered 8 (header_check s)
unfolding header_check
header_low s =
    n_must _ 0 0 _ (omega arith) (n_must _ 0 0 _ (omega arith) (n_must _ 1 0 _ (omega arith) (alike_zeros 4 s s (agree_self 4 s) 3 1 (omega arith)).low))

pub tables-low : (s : List ℕ) → Numbered 8 (tables_check s)
unfolding tables_check
tables-low s = n_must _ 3 _ _ (omega arith) (n_must _ 3 _ _ (omega arith) (n_must _ 4 _ _ (omega arith) (n_valid _)))

chain_nine : (a k : Verdict) (p : ℕ) → Numbered 8 a → chain a k ≡ Refused 9 p → ((e : ℕ) × (a ≡ Valid e)) × (k ≡ Refused 9 p)
unfolding chain
chain_nine (Valid e) k p n h = ((e, refl), h)
chain_nine (Refused m q) k p n h = absurd (let z : m ≡ 9 = cc in let l = n.low in omega arith)

bind_nine : (a : Verdict) (k : ℕ → Verdict) (p : ℕ) → Numbered 8 a → bind a k ≡ Refused 9 p → (e : ℕ) × (a ≡ Valid e) × (k e ≡ Refused 9 p)
unfolding bind
bind_nine (Valid e) k p n h = (e, refl, h)
bind_nine (Refused m q) k p n h = absurd (let z : m ≡ 9 = cc in let l = n.low in omega arith)

end_nine : (e l p : ℕ) → must (eqb e l) 9 e (Valid e) ≡ Refused 9 p → (e ≡ p) × (e ≡ l → ⊥)
unfolding must
end_nine e l p h = go (eqb e l) refl h
  where
    go : (b : Bool) → eqb e l ≡ b → must b 9 e (Valid e) ≡ Refused 9 p → (e ≡ p) × (e ≡ l → ⊥)
    go true q h = absurd (let z : ◌≡◌ {A = ℕ} 0 1 = cc in omega arith)
    go false q h = (cc, eqb-false e l q)

-- 9 at p: the check came to p, and bytes follow
pub nine_walked : (s : List ℕ) (p : ℕ) → section_check s ≡ Refused 9 p → Walked s p × (p < length s) × (length s ≤ 16777216)
unfolding section_check walk_check header_check tables_check
nine_walked s p h =
    let a = chain_nine _ _ p (header_low s) h in
    let b = chain_nine _ _ p (tables-low s) a.1 in
    let c = bind_nine _ _ p (walk_low _ _ s _ _) b.1 in
    let d = end_nine c.0 (length s) p c.2 in
    let n = d.1 in
    let w = walked_of s _ _ c.0 a.0.1 b.0.1 c.1 in
    let r : records_at s ≤ length s = leb-true _ _ (must-held _ _ _ _ _ (must-rest _ _ _ _ _ b.0.1)) in
    let l : length s ≤ 16777216 = leb-true _ _ (must-held _ _ _ _ _ (must-rest _ _ _ _ _ a.0.1)) in
    let m = (walk_within (is_old s) (all_owners s) s (num_constants s) (records_at s) r).most in
    let v : c.0 ≤ length s = rw c.1 at m in
    (rw d.0 at w, omega arith, l)

-- an accepted section: it came to its end
pub accepted_walked : (s : List ℕ) → Accepted s → Walked s (length s)
unfolding section_check walk_check
accepted_walked s h =
    let k = chain-rest _ _ _ h in
    let b = bind-first _ _ _ (chain-rest _ _ _ k) in
    let e : b.0 ≡ length s = let z = must-rest _ _ _ _ _ b.2 in cc in
    walked_of s _ _ (length s) (chain_first _ _ _ h).1 (chain_first _ _ _ k).1 (rw e at b.1)

module _ (p : ℕ) (s t : List ℕ) (g : Agree p s t) (w : Walked s p) where
  least : records_at s ≤ p
  least = walked_least s p w

  -- what is read of the header and the tables
  record HeaderSame : Type 0 where
    old : is_old t ≡ is_old s
    functions : num_functions t ≡ num_functions s
    constants : num_constants t ≡ num_constants s
    records : num_records t ≡ num_records s
    tables : read_functions t ≡ read_functions s

  header_same : HeaderSame
  unfolding read_functions
  header_same =
      let u = least in
      let z : get_or t 0 0 ≡ get_or s 0 0 = sym (g.byte 0 (omega arith)) in
      let o : is_old t ≡ is_old s = rw z in
      let f : num_functions t ≡ num_functions s = sym (agree_word 4 p s t 4 g (omega arith)) in
      record {
        old = o;
        functions = f;
        constants = sym (agree_word 4 p s t 8 g (omega arith));
        records = sym (agree_word 4 p s t 12 g (omega arith));
        tables = rw (o, f) (sym (agree_many (read_function (is_old s)) (function_size (is_old s)) (num_functions s) p s t 16 (function-same p s t g (is_old s)) (omega arith)));
      }

  pub old-same : is_old t ≡ is_old s
  old-same = header_same.old

  pub walked_alike : p ≤ length t → Walked t p
  walked_alike l =
      let u = least in
      let h = header_same in
      let z = g.byte 0 (omega arith) in
      record {
        version = rw (← z) w.version;
        reserved = (w.reserved.0, sym (alike_zeros p s t g 3 1 (omega arith)).same ∙ w.reserved.1);
        counts = rw (h.old, h.tables, h.records) w.counts;
        records = rw (h.old, h.tables, h.records, h.functions, h.constants) (walk_alike p s t g (is_old s) (num_constants s) l (all_owners s) (records_at s) w.records);
      }

  pub entries-same : entries t ≡ entries s
  entries-same =
      let h = header_same in
      let n = owners_enough (is_old s) (num_records s) (read_functions s) w.counts in
      let r = rw n at (records_alike p s t g (is_old s) (num_constants s) (all_owners s) (records_at s) w.records) in
      entries-are t ∙ rw (h.old, h.tables, h.records, h.functions, h.constants, ← r) (sym (entries-are s))

-- The two laws.

take_agrees : (p : ℕ) (s : List ℕ) → Agree p s (take p s)
take_agrees p s = record { byte = λ i h. sym (get_or-take p s i 0 h) }

join_agrees : (m r : List ℕ) → Agree (length m) m (m ++ r)
join_agrees m r = record { byte = λ i h. sym (get_or-append m r 0 i h) }

-- where the check gives 9 at p, the first p bytes are a map
pub record Prefix (s : List ℕ) (p : ℕ) : Type 0 where
  pub least : 16 ≤ p
  pub inside : p < length s
  pub long : length (take p s) ≡ p
  pub accepted : Accepted (take p s)
  pub entries_are_same : entries (take p s) ≡ entries s
  pub old_is_same : is_old (take p s) ≡ is_old s

pub prefix : (s : List ℕ) (p : ℕ) → section_check s ≡ Refused 9 p → Prefix s p
unfolding must
prefix s p h =
    let n = nine_walked s p h in
    let i = n.1 in
    let m = n.2 in
    let u = walked_least s p n.0 in
    let l : length (take p s) ≡ p = length-take-le p s (omega arith) in
    let w = walked_alike p s (take p s) (take_agrees p s) n.0 (omega arith) in
    let c = walked_check (take p s) p w (omega arith) (omega arith) in
    record {
      least = omega arith;
      inside = i;
      long = l;
      accepted = c ∙ rw (eq-eqb p (length (take p s)) (sym l)) (ap Valid (sym l));
      entries_are_same = entries-same p s (take p s) (take_agrees p s) n.0;
      old_is_same = old-same p s (take p s) (take_agrees p s) n.0;
    }

-- a map with bytes after it gets 9 at its end
pub extension : (m r : List ℕ) → Accepted m → 0 < length r → length (m ++ r) ≤ 16777216 → section_check (m ++ r) ≡ Refused 9 (length m)
unfolding must
extension m r k h l =
    let a = length-append m r in
    let w = walked_alike (length m) m (m ++ r) (join_agrees m r) (accepted_walked m k) (omega arith) in
    walked_check (m ++ r) (length m) w (omega arith) l ∙ rw (ne_eqb (length m) (length (m ++ r)) (λ e. omega arith))
