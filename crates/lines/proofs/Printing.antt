-- The lines of the hits and of the intervals, row by row, as the code takes them. Assumes nothing.
use Prim.Native.Nat.{ℕ, zero, suc, ◌+◌, ◌-◌, ◌≤◌, ◌<◌}
use native.Mathlib.Omega.{arith}
use native.Mathlib.Numerals.{add-one}
use mathlib.Core.Path.{◌≡◌, refl, ap, ◌∙◌}
use mathlib.Core.List.{List, [], ◌∷◌, ◌++◌}
use lib.ListN.{length, take, drop, get_or, length-take, drop_of_length-le}
use Rattle.std.proofs.Common.{zero-add}
use Rattle.std.specs.List.{enumerate_from, zip}
use Rattle.std.proofs.lemmas.List.FromFn.{length-enumerate_from, get_or-enumerate_from}
use Rattle.std.proofs.lemmas.Slice.Zip.{length-zip, get_or-zip}
use lib.Seq.{drop-cons, get_or-take, length-take-le}
use Rattle.model.specs.Post.{post, postings}
use Rattle.model.specs.Runs.{Asc}
use Rattle.model.proofs.Lists.{rest_cons, rest-none}
use Rattle.rank.specs.Rank.{Hit}
use Rattle.rank.proofs.Rows.{rows-length, rows_get_d}
use Rattle.lines.specs.Text.{hit_line, hit_lines, interval_line, interval_lines, last_of}

-- ---- the keeper's rows

rows_cons : (n i : ℕ) (ds ss : List ℕ) → length ds ≡ length ss → n ≤ length ds → i < n →
    drop i (take n (postings ds ss)) ≡ post (get_or ds i 0) (get_or ss i 0) ∷ drop (i + 1) (take n (postings ds ss))
rows_cons n i ds ss e m h =
    let l : i < length (take n (postings ds ss)) = omega (arith, length-take-le n (postings ds ss) (omega (arith, rows-length ds ss e))) in
    rw (add-one i, drop-cons (take n (postings ds ss)) i (post 0 0) l, get_or-take n (postings ds ss) i (post 0 0) h, rows_get_d ds ss i (omega arith) (omega arith))

pub hits_more : (rank n i : ℕ) (ds ss : List ℕ) → length ds ≡ length ss → n ≤ length ds → i < n →
    hit_lines rank (drop i (take n (postings ds ss))) ≡ hit_line rank (post (get_or ds i 0) (get_or ss i 0)) ++ hit_lines (rank + 1) (drop (i + 1) (take n (postings ds ss)))
unfolding hit_lines
hits_more rank n i ds ss e m h = rw (rows_cons n i ds ss e m h)

pub hits-none : (rank n i : ℕ) (hs : List Hit) → n ≤ i → hit_lines rank (drop i (take n hs)) ≡ []
unfolding hit_lines
hits-none rank n i hs h =
    let l : length (take n hs) ≤ i = rw length-take (omega arith) in
    rw (drop_of_length-le (take n hs) l)

-- each row with its index, as a loop over both columns gives it
abbrev pub given : (n : ℕ) (ds ss : List ℕ) → List (ℕ × (ℕ × ℕ))
given n ds ss = enumerate_from 0 (take n (zip ds ss))

pub given-length : (n : ℕ) (ds ss : List ℕ) → length ds ≡ length ss → n ≤ length ds → length (given n ds ss) ≡ n
given-length n ds ss e m =
    let q : length (take n (zip ds ss)) ≡ n = length-take-le n (zip ds ss) (omega (arith, length-zip ds ss)) in
    length-enumerate_from 0 (take n (zip ds ss)) ∙ q

given_at : (n k : ℕ) (ds ss : List ℕ) (x : ℕ × (ℕ × ℕ)) → length ds ≡ length ss → n ≤ length ds → k < n → x ≡ get_or (given n ds ss) k x →
    (x.0 ≡ k) × (x.1.0 ≡ get_or ds k 0) × (x.1.1 ≡ get_or ss k 0)
given_at n k ds ss x e m h f =
    let l : k < length (take n (zip ds ss)) = omega (arith, length-take-le n (zip ds ss) (omega (arith, length-zip ds ss))) in
    let g : x ≡ (k, (get_or ds k x.1.0, get_or ss k x.1.1)) =
    f ∙ rw (get_or-enumerate_from 0 (take n (zip ds ss)) k x l, get_or-take n (zip ds ss) k x.1 h, get_or-zip ds ss k x.1 (omega arith) (omega arith), zero-add) in
    let d : get_or ds k x.1.0 ≡ get_or ds k 0 = other ds k x.1.0 (omega arith) in
    let s : get_or ss k x.1.1 ≡ get_or ss k 0 = other ss k x.1.1 (omega arith) in
    (ap (λ (y : ℕ × (ℕ × ℕ)). y.0) g, ap (λ (y : ℕ × (ℕ × ℕ)). y.1.0) g ∙ d, ap (λ (y : ℕ × (ℕ × ℕ)). y.1.1) g ∙ s)
  where
    other : (xs : List ℕ) (i y : ℕ) → i < length xs → get_or xs i y ≡ get_or xs i 0
    other [] i y h = absurd (omega arith)
    other (z ∷ xs) zero y h = refl
    other (z ∷ xs) (suc i) y h = other xs i y (omega arith)

-- the line of the row that is given k-th
pub hits_given : (n k : ℕ) (ds ss : List ℕ) (x : ℕ × (ℕ × ℕ)) → length ds ≡ length ss → n ≤ length ds → (k < length (given n ds ss)) × (x ≡ get_or (given n ds ss) k x) →
    hit_lines (k + 1) (drop k (take n (postings ds ss))) ≡ hit_line (x.0 + 1) (post x.1.0 x.1.1) ++ hit_lines (k + 1 + 1) (drop (k + 1) (take n (postings ds ss)))
hits_given n k ds ss x e m t =
    let h : k < n = omega (arith, t.0, given-length n ds ss e m) in
    let g = given_at n k ds ss x e m h t.1 in
    rw (g.0, g.1, g.2) (hits_more (k + 1) n k ds ss e m h)

-- ---- the book's rows

module _ (lim i : ℕ) (fs cs ms : List ℕ) where
  pub intervals-more : length cs ≡ length fs → length ms ≡ length fs → i < length fs →
      interval_lines lim (drop i fs) (drop i cs) (drop i ms)
      ≡ interval_line (get_or fs i 0) (last_of lim (drop (i + 1) fs)) (get_or cs i 0) (get_or ms i 0) ++ interval_lines lim (drop (i + 1) fs) (drop (i + 1) cs) (drop (i + 1) ms)
  unfolding interval_lines
  intervals-more c m h = rw (rest_cons fs i h, rest_cons cs i (omega arith), rest_cons ms i (omega arith))

  pub intervals-none : length fs ≤ i → interval_lines lim (drop i fs) (drop i cs) (drop i ms) ≡ []
  unfolding interval_lines
  intervals-none h = rw (rest-none fs i h)

-- ---- an interval's last docid

module _ (lim i : ℕ) (fs : List ℕ) where
  pub last-next : i < length fs → last_of lim (drop i fs) ≡ get_or fs i 0 - 1
  last-next h = rw (rest_cons fs i h)

  pub last-limit : length fs ≤ i → last_of lim (drop i fs) ≡ lim
  last-limit h = rw (rest-none fs i h)

pub asc_at : (n i : ℕ) (xs : List ℕ) → Asc n xs → i < length xs → n < get_or xs i 0
asc_at n i [] a h = absurd (omega arith)
asc_at n zero (x ∷ xs) a h = a.0
asc_at n (suc i) (x ∷ xs) a h = omega (arith, a.0, asc_at x i xs a.1 (omega arith))
