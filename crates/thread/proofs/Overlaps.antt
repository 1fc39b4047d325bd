-- Stretches that share a byte, extents as stretches, and what the test of a list's extents tells: that they share none.
use Prim.Native.Nat.{ℕ, suc, max, ◌≤◌, ◌<◌}
use mathlib.Core.Path.{◌≡◌, refl, sym, ◌∙◌}
use mathlib.Core.Bool.{Bool, true, false, true≢false}
use mathlib.Core.Logic.{◌⊎◌, inl, inr, ⊎_elim}
use mathlib.Core.List.Memᴰ
use mathlib.Core.List.{List, [], ◌∷◌, map, Memᴰ}
use native.Mathlib.Omega.{arith}
use Rattle.moves.specs.declared.Move.{Move}
use Rattle.moves.specs.Settle.{refused_move}
use Rattle.moves.proofs.Searches.{or_no}
use Rattle.relocate.specs.Stopped.{Stopped}
use Rattle.relocate.specs.Relocation.{Extent, extent_of, InExtent}
use Rattle.relocate.specs.Lists.{Disjoint}
use Rattle.thread.specs.Thread.{share, shares_one, apart}
use Rattle.thread.proofs.StretchesApart.{share_yes, share-told}

-- the byte x is in the stretch from a up to b
pub record Within (a b x : ℕ) : Type 0 where
  pub low : a ≤ x
  pub high : x < b

-- Two stretches share a byte exactly if some byte is in both.

pub share_byte : (a b c d : ℕ) → share a b c d ≡ true → (x : ℕ) × Within a b x × Within c d x
share_byte a b c d h =
    let t = share-told a b c d h in
    (max a c, record { low = omega arith; high = omega arith }, record { low = omega arith; high = omega arith })

pub byte_share : (a b c d x : ℕ) → Within a b x → Within c d x → share a b c d ≡ true
byte_share a b c d x p q = share_yes a b c d (omega arith) (omega arith) (omega arith) (omega arith)

pub share-none : (a b c d : ℕ) → share a b c d ≡ false → (x : ℕ) → Within a b x → Within c d x → ⊥
share-none a b c d h x p q = true≢false (sym (byte_share a b c d x p q) ∙ h)

pub none-share : (a b c d : ℕ) → ((x : ℕ) → Within a b x → Within c d x → ⊥) → share a b c d ≡ false
none-share a b c d n = go (share a b c d) refl
  where
    go : (t : Bool) → share a b c d ≡ t → share a b c d ≡ false
    go true e = let o = share_byte a b c d e in absurd (n o.0 o.1 o.2)
    go false e = e

-- A byte is in a frame's extent exactly if it is in the stretch.

abbrev pub In : Extent → ℕ → Type 0
In x a = Within x.start x.end a

pub in_stretch : (s : List ℕ) (f : Stopped) (a : ℕ) → InExtent s f a → In (extent_of s f) a
in_stretch s f a i = record { low = i.low; high = i.high }

pub of_stretch : (s : List ℕ) (f : Stopped) (a : ℕ) → In (extent_of s f) a → InExtent s f a
of_stretch s f a i = record { low = i.low; high = i.high }

module _ (s : List ℕ) where
  abbrev pub extents : List Stopped → List Extent
  extents fs = map (extent_of s) fs

  -- no byte of f's extent is in the extent of one of these
  abbrev pub Apart : Stopped → List Stopped → Type 0
  Apart f gs = (g : Stopped) → Memᴰ g gs → (a : ℕ) → InExtent s f a → InExtent s g a → ⊥

  pub shares_none : (f : Stopped) (gs : List Stopped) → shares_one (extent_of s f) (extents gs) ≡ false → Apart f gs
  shares_none f [] h g m a p q = absurd (Memᴰ.not-nil m)
  shares_none f (x ∷ gs) h g m a p q =
      ⊎_elim
      (λ e. share-none _ _ _ _ o.0 a (in_stretch s f a p) (in_stretch s x a (rw e at q)))
      (λ n. shares_none f gs o.1 g n a p q)
      (Memᴰ.cases_cons m)
    where
      o : (share (extent_of s f).start (extent_of s f).end (extent_of s x).start (extent_of s x).end ≡ false)
          × (shares_one (extent_of s f) (extents gs) ≡ false)
      o = or_no _ _ h

  pub none_shares : (f : Stopped) (gs : List Stopped) → Apart f gs → shares_one (extent_of s f) (extents gs) ≡ false
  none_shares f [] n = refl
  none_shares f (x ∷ gs) n =
      rw (none-share _ _ _ _ (λ a p q. n x (Memᴰ.head refl) a (of_stretch s f a p) (of_stretch s x a q)))
      (none_shares f gs (λ g m. n g (Memᴰ.tail m)))

-- The test goes on at an extent that shares no byte with an earlier one, and ends with 26 at one that does.

apart_on : (i : ℕ) (earlier : List Extent) (x : Extent) (xs : List Extent) (k : Move) → shares_one x earlier ≡ false
    → apart i earlier (x ∷ xs) k ≡ apart (suc i) (x ∷ earlier) xs k
unfolding apart
apart_on i earlier x xs k e = rw (e, apart)

apart-end : (i : ℕ) (earlier : List Extent) (x : Extent) (xs : List Extent) (k : Move) → shares_one x earlier ≡ true
    → apart i earlier (x ∷ xs) k ≡ refused_move 26 i
unfolding apart
apart-end i earlier x xs k e = rw (e, apart)

module _ (s : List ℕ) where
  -- no two of fs share a byte, and none of them shares one with a frame of gs
  pub record Clear (gs fs : List Stopped) : Type 0 where
    pub disjoint : Disjoint s fs
    pub from_earlier : (f : Stopped) → Memᴰ f fs → Apart s f gs

  -- one more frame, before those that are clear of it
  clear-more : (gs : List Stopped) (f : Stopped) (fs : List Stopped) → Apart s f gs → Clear (f ∷ gs) fs → Clear gs (f ∷ fs)
  clear-more gs f fs n c =
      record {
        disjoint = ((λ g m a p q. c.from_earlier g m f (Memᴰ.head refl) a q p), c.disjoint);
        from_earlier = λ g m. ⊎_elim (λ e. rw e n) (λ l h o. c.from_earlier g l h (Memᴰ.tail o)) (Memᴰ.cases_cons m);
      }

  clear-less : (gs : List Stopped) (f : Stopped) (fs : List Stopped) → Clear gs (f ∷ fs) → Apart s f gs × Clear (f ∷ gs) fs
  clear-less gs f fs c = (
    c.from_earlier f (Memᴰ.head refl),
    record {
      disjoint = c.disjoint.1;
      from_earlier = λ g m h o a p q.
          ⊎_elim (λ e. c.disjoint.0 g m a (rw e at q) p) (λ l. c.from_earlier g (Memᴰ.tail m) h l a p q) (Memᴰ.cases_cons o);
    },
  )

  -- the frames gs stand before the position i, and the frames fs from i on: the test passes clear frames
  pub clear-passes : (i : ℕ) (gs fs : List Stopped) (k : Move) → Clear gs fs → apart i (extents s gs) (extents s fs) k ≡ k
  unfolding apart
  clear-passes i gs [] k c = refl
  clear-passes i gs (f ∷ fs) k c =
      let o = clear-less gs f fs c in
      apart_on i (extents s gs) (extent_of s f) (extents s fs) k (none_shares s f gs o.0) ∙ clear-passes (suc i) (f ∷ gs) fs k o.1

  -- and else it ends with 26
  pub clear_or_26 : (i : ℕ) (gs fs : List Stopped) (k : Move) → Clear gs fs ⊎ ((j : ℕ) × (apart i (extents s gs) (extents s fs) k ≡ refused_move 26 j))
  clear_or_26 i gs [] k = inl (record { disjoint = tt; from_earlier = λ f m. absurd (Memᴰ.not-nil m) })
  clear_or_26 i gs (f ∷ fs) k = go (clear_or_26 (suc i) (f ∷ gs) fs k) (shares_one (extent_of s f) (extents s gs)) refl
    where
      go : Clear (f ∷ gs) fs ⊎ ((j : ℕ) × (apart (suc i) (extents s (f ∷ gs)) (extents s fs) k ≡ refused_move 26 j))
          → (t : Bool) → shares_one (extent_of s f) (extents s gs) ≡ t
          → Clear gs (f ∷ fs) ⊎ ((j : ℕ) × (apart i (extents s gs) (extents s (f ∷ fs)) k ≡ refused_move 26 j))
      go o true e = inr (i, apart-end i (extents s gs) (extent_of s f) (extents s fs) k e)
      go (inl c) false e = inl (clear-more gs f fs (shares_none s f gs e) c)
      go (inr r) false e = inr (r.0, apart_on i (extents s gs) (extent_of s f) (extents s fs) k e ∙ r.1)

  -- The whole list.

  all-clear : (fs : List Stopped) → Disjoint s fs → Clear [] fs
  all-clear fs d = record { disjoint = d; from_earlier = λ f m g n. absurd (Memᴰ.not-nil n) }

  pub apart-passes : (fs : List Stopped) (k : Move) → Disjoint s fs → apart 0 [] (extents s fs) k ≡ k
  apart-passes fs k d = clear-passes 0 [] fs k (all-clear fs d)

  pub apart_tells : (fs : List Stopped) (k : Move) → (apart 0 [] (extents s fs) k).number ≡ 0 → Disjoint s fs × (k.number ≡ 0)
  apart_tells fs k h = go (clear_or_26 0 [] fs k)
    where
      go : Clear [] fs ⊎ ((j : ℕ) × (apart 0 [] (extents s fs) k ≡ refused_move 26 j)) → Disjoint s fs × (k.number ≡ 0)
      go (inl c) = (c.disjoint, rw (clear-passes 0 [] fs k c) at h)
      go (inr r) = absurd (let z : ◌≡◌ {A = ℕ} 26 0 = rw r.1 at h in omega arith)
