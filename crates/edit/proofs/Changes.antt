-- An edit of pieces that stand leaves pieces that stand, which hold the old postings and its own change. Assumes nothing.
use Prim.Native.Nat.{ℕ, ◌+◌, ◌^◌, ◌≤◌, ◌<◌}
use native.Mathlib.Omega.{arith}
use mathlib.Core.Path.{◌≡◌, refl}
use mathlib.Core.List.{List, [], ◌∷◌}
use mathlib.Core.Bool.{Bool, true, false, ◌&&◌}
use borrow.Author.Tests.{le-leb, leb-true, ltb-true, ltb-false, eqb-true, eqb-false}
use lib.Dec.{leb, ltb, eqb}
use lib.ListN.{length}
use Rattle.model.specs.Limits.{max_docid, max_score, max_postings}
use Rattle.model.specs.Post.{Post, post, docs}
use Rattle.model.specs.Runs.{has}
use Rattle.model.proofs.Lists.{split, and-true}
use Rattle.list.specs.Write.{Word, Words, Writable}
use Rattle.change.specs.Edits.{Edit, Set, Clear, Withdraw, set_post, clear_post, word, set_word, unless_empty, clear_words, only, every, applied, Termed}
use Rattle.change.specs.Bytes.{Piece, contents, bytes_for, posts_for, repacks, anew, set_piece, anew_unless_empty, holds, clear_pieces, changed, docid_in, in_range, few}
use Rattle.change.proofs.Postings.{Fit, may-fit, Ranged, one-fit, set-fit, clear-fit, clear_absent}
use Rattle.change.proofs.Pieces.{Rises, anew_stands}

-- ---- lists that are few enough

few_cons : (x : Piece) (xs : List Piece) → few (x ∷ xs) ≡ true → (length x.posts ≤ max_postings) × (few xs ≡ true)
few_cons x xs e = let a = and-true (leb (length x.posts) max_postings) (few xs) e in (leb-true _ _ a.0, a.1)

writable : (ps : List Post) → Fit ps → length ps ≤ max_postings → Writable ps
writable ps f l = record { some = f.some; few = l; rise = f.rise; scores = f.scores; last = f.last }

-- a list packed anew stands in front of others
anew-rises : (strip : Bool) (floor t : ℕ) (ps : List Post) (xs : List Piece) → floor ≤ t → t < 2 ^ 32 → Fit ps → few (anew strip t ps ∷ xs) ≡ true → Rises (t + 1) xs → Rises floor (anew strip t ps ∷ xs)
anew-rises strip floor t ps xs low small f e r = (low, anew_stands strip t ps small (writable ps f (few_cons (anew strip t ps) xs e).0), r)

rises_less : (floor low : ℕ) (xs : List Piece) → low ≤ floor → Rises floor xs → Rises low xs
rises_less floor low [] l r = tt
rises_less floor low (x ∷ xs) l r = (omega (arith, r.0), r.1, r.2)

-- ---- set

set-rises : (floor t d w : ℕ) (xs : List Piece) → floor ≤ t → t < 2 ^ 32 → Ranged d w → Rises floor xs → few (set_piece t d w xs) ≡ true → Rises floor (set_piece t d w xs)
set-rises floor t d w [] low small g r e = anew-rises false floor t (post d w ∷ []) [] low small (one-fit d w g) e tt
set-rises floor t d w (x ∷ xs) low small g r e =
    split (ltb t x.term)
    (λ l.
    let e1 : few (anew false t (post d w ∷ []) ∷ x ∷ xs) ≡ true = rw l at e in
    rw l (anew-rises false floor t (post d w ∷ []) (x ∷ xs) low small (one-fit d w g) e1 (omega (arith, ltb-true t x.term l), r.1, r.2)))
    (λ l. split (eqb t x.term)
    (λ f.
    let q : t ≡ x.term = eqb-true _ _ f in
    let e1 : few (anew x.strip t (set_post d w x.posts) ∷ xs) ≡ true = rw (l, f) at e in
    rw (l, f) (anew-rises x.strip floor t (set_post d w x.posts) xs low small (set-fit d w x.posts g (may-fit x.posts r.1.may)) e1 (rw q r.2)))
    (λ f.
    let e1 : few (x ∷ set_piece t d w xs) ≡ true = rw (l, f) at e in
    let more : x.term + 1 ≤ t = omega (arith, ltb-false t x.term l, eqb-false t x.term f) in
    rw (l, f) (r.0, r.1, set-rises (x.term + 1) t d w xs more small g r.2 (few_cons x (set_piece t d w xs) e1).1)))

set-contents : (t d w : ℕ) (xs : List Piece) → contents (set_piece t d w xs) ≡ set_word t d w (contents xs)
set-contents t d w [] = refl
set-contents t d w (x ∷ xs) =
    split (ltb t x.term)
    (λ l. rw l)
    (λ l. split (eqb t x.term) (λ f. rw (l, f)) (λ f. rw (l, f, set-contents t d w xs)))

-- ---- clear and withdraw

unless-rises : (strip : Bool) (floor t : ℕ) (ps : List Post) (xs : List Piece) → floor ≤ t → t < 2 ^ 32 → (0 < length ps → Fit ps) → few (anew_unless_empty strip t ps xs) ≡ true → Rises (t + 1) xs →
    Rises floor (anew_unless_empty strip t ps xs)
unless-rises strip floor t [] xs low small f e r = rises_less (t + 1) floor xs (omega arith) r
unless-rises strip floor t (p ∷ ps) xs low small f e r = anew-rises strip floor t (p ∷ ps) xs low small (f (omega arith)) e r

unless-few : (strip : Bool) (t : ℕ) (ps : List Post) (xs : List Piece) → few (anew_unless_empty strip t ps xs) ≡ true → few xs ≡ true
unless-few strip t [] xs e = e
unless-few strip t (p ∷ ps) xs e = (few_cons (anew strip t (p ∷ ps)) xs e).1

clear-rises : (named : ℕ → Bool) (floor d : ℕ) (xs : List Piece) → Rises floor xs → few (clear_pieces named d xs) ≡ true → Rises floor (clear_pieces named d xs)
clear-rises named floor d [] r e = tt
clear-rises named floor d (x ∷ xs) r e =
    split (holds named d x)
    (λ h.
    let e1 : few (anew_unless_empty x.strip x.term (clear_post d x.posts) (clear_pieces named d xs)) ≡ true = rw h at e in
    let more = clear-rises named (x.term + 1) d xs r.2 (unless-few x.strip x.term (clear_post d x.posts) (clear_pieces named d xs) e1) in
    rw h (unless-rises x.strip floor x.term (clear_post d x.posts) (clear_pieces named d xs) r.0 r.1.small (clear-fit d x.posts (may-fit x.posts r.1.may)) e1 more))
    (λ h.
    let e1 : few (x ∷ clear_pieces named d xs) ≡ true = rw h at e in
    rw h (r.0, r.1, clear-rises named (x.term + 1) d xs r.2 (few_cons x (clear_pieces named d xs) e1).1))

unless-contents : (strip : Bool) (t : ℕ) (ps : List Post) (xs : List Piece) → contents (anew_unless_empty strip t ps xs) ≡ unless_empty strip t ps (contents xs)
unless-contents strip t [] xs = refl
unless-contents strip t (p ∷ ps) xs = refl

unless-some : (strip : Bool) (t : ℕ) (ps : List Post) (xs : List Word) → 0 < length ps → unless_empty strip t ps xs ≡ word strip t ps ∷ xs
unless-some strip t [] xs l = absurd (omega arith)
unless-some strip t (p ∷ ps) xs l = refl

clear-contents : (named : ℕ → Bool) (floor d : ℕ) (xs : List Piece) → Rises floor xs → contents (clear_pieces named d xs) ≡ clear_words named d (contents xs)
clear-contents named floor d [] r = refl
clear-contents named floor d (x ∷ xs) r =
    let ih = clear-contents named (x.term + 1) d xs r.2 in
    split (named x.term)
    (λ m. split (has d (docs x.posts))
    (λ h. rw (m, h, unless-contents x.strip x.term (clear_post d x.posts) (clear_pieces named d xs), ih))
    (λ h. rw (m, h, ih, clear_absent d x.posts h, unless-some x.strip x.term x.posts (clear_words named d (contents xs)) r.1.may.some)))
    (λ m. rw (m, ih))

-- ---- any edit

docid-in : (d : ℕ) → docid_in d ≡ true → (0 < d) × (d ≤ max_docid)
docid-in d e = let a = and-true (ltb 0 d) (leb d max_docid) e in (ltb-true _ _ a.0, leb-true _ _ a.1)

pub set_ranged : (t d w : ℕ) → in_range (Set t d w) ≡ true → Ranged d w
set_ranged t d w e =
    let a = and-true (docid_in d) (ltb 0 w && leb w max_score) e in
    let b = docid-in d a.0 in
    let c = and-true (ltb 0 w) (leb w max_score) a.1 in
    record { low = b.0; high = b.1; some = ltb-true _ _ c.0; most = leb-true _ _ c.1 }

pub changed-rises : (e : Edit) (xs : List Piece) → Termed e → in_range e ≡ true → Rises 0 xs → few (changed e xs) ≡ true → Rises 0 (changed e xs)
unfolding changed
changed-rises (Set t d w) xs small g r f = set-rises 0 t d w xs (omega arith) small (set_ranged t d w g) r f
changed-rises (Clear t d) xs small g r f = clear-rises (only t) 0 d xs r f
changed-rises (Withdraw d) xs small g r f = clear-rises every 0 d xs r f

pub changed-contents : (e : Edit) (xs : List Piece) → Rises 0 xs → contents (changed e xs) ≡ applied e (contents xs)
unfolding changed applied
changed-contents (Set t d w) xs r = set-contents t d w xs
changed-contents (Clear t d) xs r = clear-contents (only t) 0 d xs r
changed-contents (Withdraw d) xs r = clear-contents every 0 d xs r

-- what pieces that stand hold may be written
pub rises-words : (floor : ℕ) (xs : List Piece) → Rises floor xs → Words floor (contents xs)
rises-words floor [] r = tt
rises-words floor (x ∷ xs) r = (r.0, r.1.small, r.1.may, rises-words (x.term + 1) xs r.2)

-- and they are few
pub rises-few : (floor : ℕ) (xs : List Piece) → Rises floor xs → few xs ≡ true
rises-few floor [] r = refl
rises-few floor (x ∷ xs) r = rw (le-leb (length x.posts) 6400 r.1.may.few) (rises-few (x.term + 1) xs r.2)

-- ---- the lists that an edit does not change

set-copies : (t d w u : ℕ) (xs : List Piece) → eqb u t ≡ false → bytes_for u (set_piece t d w xs) ≡ bytes_for u xs
set-copies t d w u [] n = rw n
set-copies t d w u (x ∷ xs) n =
    split (ltb t x.term)
    (λ l. rw (l, n))
    (λ l. split (eqb t x.term)
    (λ f. let q : t ≡ x.term = eqb-true _ _ f in let m : eqb u x.term ≡ false = rw q at n in rw (l, f, n, m))
    (λ f. rw (l, f, set-copies t d w u xs n)))

unless-copies : (strip : Bool) (t u : ℕ) (ps : List Post) (xs : List Piece) → eqb u t ≡ false → bytes_for u (anew_unless_empty strip t ps xs) ≡ bytes_for u xs
unless-copies strip t u [] xs n = refl
unless-copies strip t u (p ∷ ps) xs n = rw n

clear-copies : (named : ℕ → Bool) (d u : ℕ) (xs : List Piece) → (named u && has d (docs (posts_for u xs))) ≡ false → bytes_for u (clear_pieces named d xs) ≡ bytes_for u xs
clear-copies named d u [] n = refl
clear-copies named d u (x ∷ xs) n =
    split (eqb u x.term)
    (λ g.
    let q : u ≡ x.term = eqb-true _ _ g in
    let h : holds named d x ≡ false = rw (g, q) at n in
    rw (h, g))
    (λ g.
    let n1 : (named u && has d (docs (posts_for u xs))) ≡ false = rw g at n in
    let ih = clear-copies named d u xs n1 in
    split (holds named d x)
    (λ h. rw (h, unless-copies x.strip x.term u (clear_post d x.posts) (clear_pieces named d xs) g, g) ih)
    (λ h. rw (h, g) ih))

pub changed-copies : (e : Edit) (u : ℕ) (xs : List Piece) → repacks e u xs ≡ false → bytes_for u (changed e xs) ≡ bytes_for u xs
unfolding changed
changed-copies (Set t d w) u xs n = set-copies t d w u xs n
changed-copies (Clear t d) u xs n = clear-copies (only t) d u xs n
changed-copies (Withdraw d) u xs n = clear-copies every d u xs n
