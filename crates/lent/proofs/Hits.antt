-- Hits in rows: a keeper's hits are written one by one, and its rows are then those of the outcome. Assumes nothing.
use native.Mathlib.Omega.{arith}
use native.Mathlib.Numerals.{add-one}
use Prim.Native.Nat.{ℕ, zero, suc, ◌+◌, ◌≤◌, ◌<◌, min}
use mathlib.Core.Path.{◌≡◌, refl, sym, ap, ◌∙◌}
use mathlib.Core.List.{List, [], ◌∷◌, ◌++◌, append-nil, map}
use lib.ListN.{length, set, take, drop, get_or, length-append, length-drop, length-map, length-take, drop_of_length-le}
use lib.Dec.{leb}
use lib.Seq.{take_all, take-take, length-take-le}
use borrow.Author.Tests.{leb-true, leb-false}
use Rattle.model.specs.Outcome.{Outcome, done}
use Rattle.model.specs.Post.{postings}
use Rattle.model.proofs.Lists.{split}
use Rattle.model.proofs.Posts.{count_of}
use Rattle.rank.specs.Rank as rank
use Rattle.rank.specs.Keep.{kept_of, keeper}
use Rattle.rank.specs.declared.keep.Kept.{Kept}
use Rattle.prune.proofs.Rooms.{Within}
use Rattle.lent.specs.Rows.{row_of, with_hits, Rowed, Counts}
use Rattle.lent.specs.declared.rows.Hit.{Hit}

-- ---- rows with hits in front

pub length_with : (hs : List rank.Hit) (l : List Hit) → length hs ≤ length l → length (with_hits hs l) ≡ length l
length_with hs l le = omega (arith, length-append (map row_of hs) (drop (length hs) l), length-map hs row_of, length-drop (length hs) l, le)

-- the rows up to the last hit, and those past them
with-front : (hs : List rank.Hit) (n : ℕ) (l : List Hit) → length hs ≡ n → n ≤ length l → with_hits hs (take n l) ++ drop n l ≡ with_hits hs l
with-front hs n l e h =
    let none : drop n (take n l) ≡ [] = drop_of_length-le (take n l) (omega (arith, length-take-le n l h)) in
    rw (e, none, append-nil)

-- the hit at a place of the keeper
abbrev pub hit_at : Kept → ℕ → Hit
hit_at t i = record { docid = get_or t.docids i 0; score = get_or t.scores i 0 }

-- one hit more
turn : (ds ss : List ℕ) (i : ℕ) (l : List Hit) → i < length (postings ds ss) → i < length l →
    set (with_hits (take i (postings ds ss)) l) i (record { docid = get_or ds i 0; score = get_or ss i 0 }) ≡ with_hits (take (suc i) (postings ds ss)) l
turn [] ss i l a b = absurd (omega arith)
turn (d ∷ ds) [] i l a b = absurd (omega arith)
turn (d ∷ ds) (s ∷ ss) i [] a b = absurd (omega arith)
turn (d ∷ ds) (s ∷ ss) zero (r ∷ l) a b = refl
turn (d ∷ ds) (s ∷ ss) (suc i) (r ∷ l) a b = ap {B = List Hit} (λ t. record { docid = d; score = s } ∷ t) (turn ds ss i l (omega arith) (omega arith))

-- the keeper's first i hits
abbrev pub first_hits : Kept → ℕ → List rank.Hit
first_hits t i = take i (postings t.docids t.scores)

cut_at : (hs : List rank.Hit) (m n : ℕ) → n ≡ min (length hs) m → take n hs ≡ take m hs
cut_at hs m n e =
    split (leb m (length hs))
    (λ l. let same : n ≡ m = omega (arith, leb-true m (length hs) l) in ap (λ (k : ℕ). take k hs) same)
    (λ l. take_all n hs (omega (arith, leb-false m (length hs) l)) ∙ sym (take_all m hs (omega (arith, leb-false m (length hs) l))))

-- n of them are to be written into m rows
module _ (t : Kept) (m n : ℕ) (h : Counts t m n) where
  pub held_rows : n ≤ m
  held_rows = omega (arith, h.count)

  pub first_with : (i : ℕ) (l : List Hit) → i ≤ n → length l ≡ m → length (with_hits (first_hits t i) l) ≡ length l
  first_with i l le e = length_with (first_hits t i) l (omega (arith, length-take i (postings t.docids t.scores), held_rows))

  pub first-all : first_hits t n ≡ take m (kept_of t)
  first-all =
      sym (take-take n t.n (postings t.docids t.scores) (omega (arith, length-take t.n (postings t.docids t.scores), h.count))) ∙ cut_at (kept_of t) m n h.count

-- n of them are to be written into the rows l
module _ (t : Kept) (l : List Hit) (n : ℕ) (h : Counts t (length l) n) where
  abbrev ps : List rank.Hit
  ps = postings t.docids t.scores

  pub one_more : (i : ℕ) → i < length (take n l) → set (with_hits (first_hits t i) (take n l)) i (hit_at t i) ≡ with_hits (first_hits t (i + 1)) (take n l)
  one_more i lt = rw add-one (turn t.docids t.scores i (take n l) (omega (arith, length-take n l, length-take t.n ps, h.count)) lt)

  pub all_written : (i : ℕ) → i ≡ length (take n l) → with_hits (first_hits t i) (take n l) ++ drop n l ≡ with_hits (take (length l) (kept_of t)) l
  all_written i e =
      let f : i ≡ n = omega (arith, length-take n l, h.count) in
      let size : length (first_hits t n) ≡ n = omega (arith, length-take n ps, length-take t.n ps, h.count) in
      rw f (with-front (first_hits t n) n l size (omega (arith, h.count)) ∙ ap (λ hs. with_hits hs l) (first-all t (length l) n h))

-- a keeper's two runs end at 100
pub held_as : (t : Kept) (m n : ℕ) → length t.docids ≡ 100 → length t.scores ≡ 100 → n ≡ min (min t.n 100) m → Counts t m n
held_as t m n a b e =
    record { count = omega (arith, length-take t.n (postings t.docids t.scores), count_of t.docids t.scores (omega arith)); most = omega arith }

-- ---- an outcome once its hits are written: a ranking within the rows has a row for each

pub rowed : {o : Outcome (List rank.Hit)} (t : Kept) (old new : List Hit) → done (kept_of t) ≡ o → t ≡ keeper (kept_of t) → Within length (length old) o
    → new ≡ with_hits (take (length old) (kept_of t)) old → Rowed o 0 0 t.n old new
rowed t old new e z w f =
    let room : length (kept_of t) ≤ length old = rw (sym e) at w in
    let n : t.n ≡ length (kept_of t) = ap (λ (x : Kept). x.n) z in
    let rows : new ≡ with_hits (kept_of t) old = f ∙ ap (λ hs. with_hits hs old) (take_all (length old) (kept_of t) room) in
    rw (← e) (record { told = record { number = refl; offset = refl; hits = n }; rows = rows })
