-- For the code alone: nothing here has to be believed.
-- What a search keeps of the records of a section that stands in a longer one.
use Rattle.std.specs.Prelude.{ℕ, suc, ◌+◌, ◌≤◌, ◌<◌, ◌≡◌, cond, List, eqb, get_or}
use Rattle.stackmap.specs.Verdict.{Verdict}
use Rattle.stackmap.specs.Verdict.{Valid}
use Rattle.stackmap.specs.Section.{Entry}
use Rattle.stackmap.proofs.OneWalk.{fold}
use Rattle.questions.specs.declared.Hits.{Hits}
use Rattle.questions.specs.Kept.{noted}
use Rattle.sorted.specs.Sorted.{LowerBound}
use Rattle.thread.specs.Code.{hits_at, noted_all}

-- up to here one more record can be counted, and up to there those of one more section, which has fewer than 2^32
abbrev pub sharing_most : ℕ
sharing_most = 9223372036854775808

abbrev pub counted_most : ℕ
counted_most = 4611686018427387904

abbrev pub section_records : ℕ
section_records = 4294967296

-- one more record with the address, of these numbers
abbrev pub hit_by : ℕ → ℕ → ℕ → Hits → Hits
hit_by i f p h =
    cond (eqb h.sharing 0) (record { index = i; function = f; sharing = 1; first = p })
    (record { index = h.index; function = h.function; sharing = suc h.sharing; first = h.first })

-- an entry of a section that stands `base` bytes into a longer one, with its first byte counted from there
abbrev pub entry_from : ℕ → Entry → Entry
entry_from base e = record { number = e.number; first = base + e.first; owner = e.owner; body = e.body }

abbrev pub noted_from : ℕ → Entry → (ℕ → Hits) → ℕ → Hits
noted_from base e = noted_all (entry_from base e)

-- the same for one address
abbrev pub noted_one : ℕ → ℕ → Entry → Hits → Hits
noted_one base a e = noted a (entry_from base e)

-- no address has been found at more than k records more
pub record Grown (before after : List ℕ) (k : ℕ) : Type 0 where
  pub each : (i : ℕ) → (hits_at after i).sharing ≤ (hits_at before i).sharing + k

-- Of equal addresses the first stands for all: its place has taken up all entries of the list.
pub record NotedAll (keys : List ℕ) (n : ℕ) (before after : List ℕ) (base : ℕ) (es : List Entry) : Type 0 where
  pub at : (i : ℕ) → i < n → LowerBound keys n (get_or keys i 0) i
      → hits_at after i ≡ fold (noted_one base (get_or keys i 0)) es (hits_at before i)

-- what a walk over a section of these entries leaves: where all are right they are noted
pub record Scans (keys : List ℕ) (n : ℕ) (before after : List ℕ) (base : ℕ) (es : List Entry) (r : Verdict) : Type 0 where
  pub noted_all : (e : ℕ) → r ≡ Valid e → NotedAll keys n before after base es
  pub grown : Grown before after section_records
