-- On sound intervals the search gives the ranking; which intervals it skips; asking for more. Assumes nothing.
use Prim.Native.Nat.{ℕ, ◌≤◌, ◌<◌}
use mathlib.Core.Path.{◌≡◌, refl, sym, ap, ◌∙◌}
use mathlib.Core.Bool.{Bool, true, false, false≢true, cond}
use mathlib.Core.Option.{none}
use mathlib.Core.Logic.{◌⊎◌, inl, inr, ⊎_elim, ◌↔◌}
use mathlib.Core.List.{List, [], ◌∷◌, ◌++◌, map, foldl-append, append_assoc}
use native.Mathlib.Omega.{arith}
use lib.Dec.{ltb}
use borrow.Author.Tests.{ltb-true, ltb-false, lt-ltb, le-ltb}
use lib.ListN.{length, get_or}
use Rattle.model.specs.Post.{Rising, last_doc}
use Rattle.model.specs.Outcome.{Outcome, refused, done}
use Rattle.model.specs.Runs.{All}
use Rattle.model.proofs.Lists.{split, All_map, All_both, All_front, All_rest}
use Rattle.rank.specs.Rank.{Hit, beats, sort, ranking, keep, keeps, best, kth}
use Rattle.rank.proofs.Order.{beats_less, beats-plain, unbeaten_plain}
use Rattle.rank.proofs.Ranks.{best-ranking, keeps_full, sort-length}
use Rattle.rank.proofs.Withins.{rising-above, rising-front, rising-rest}
use Rattle.rank.proofs.Keepers.{kth-short, unbeaten_full, kth-take, Upto, upto-none, keeps-upto, kth-more}
use Rattle.prune.specs.Search.{Span, opens, step, search_from, search, mark, marks_from, marks, all_hits, Fair, Sound}

-- Why an interval is not opened
abbrev pub Shut : ℕ → List Hit → Span → Type 0
Shut k kept s = (s.barred ≡ true) ⊎ ((s.ceiling ≡ 0) ⊎ (beats s.ceiling (kth k kept) ≡ false))

pub record Open (k : ℕ) (kept : List Hit) (s : Span) : Type 0 where
  pub free : s.barred ≡ false
  pub some : 0 < s.ceiling
  pub more : beats s.ceiling (kth k kept) ≡ true

pub opens-false : (k : ℕ) (kept : List Hit) (s : Span) → opens k kept s ≡ false → Shut k kept s
unfolding opens
opens-false k kept s e =
    split s.barred
    (λ b. inl b)
    (λ b. split (ltb 0 s.ceiling) (λ p. inr (inr (rw (b, p) at e))) (λ p. inr (inl (omega (arith, ltb-false)))))

pub opens-true : (k : ℕ) (kept : List Hit) (s : Span) → opens k kept s ≡ true → Open k kept s
unfolding opens
opens-true k kept s e =
    split s.barred
    (λ b. absurd (false≢true (rw b at e)))
    (λ b. split (ltb 0 s.ceiling)
    (λ p. record { free = b; some = ltb-true _ _ p; more = rw (b, p) at e })
    (λ p. absurd (false≢true (rw (b, p) at e))))

pub open_when : (k : ℕ) (kept : List Hit) (s : Span) → Open k kept s → opens k kept s ≡ true
unfolding opens
open_when k kept s o = rw (o.free, lt-ltb 0 s.ceiling o.some) o.more

pub shut_when : (k : ℕ) (kept : List Hit) (s : Span) → Shut k kept s → opens k kept s ≡ false
unfolding opens
shut_when k kept s (inl b) = rw b
shut_when k kept s (inr (inl z)) = split s.barred (λ b. rw b) (λ b. rw (b, le-ltb 0 s.ceiling (omega arith)))
shut_when k kept s (inr (inr u)) = split s.barred (λ b. rw b) (λ b. split (ltb 0 s.ceiling) (λ p. rw (b, p) u) (λ p. rw (b, p)))

-- the rule of opening in the paper's words
pub opens_plain : (k : ℕ) (kept : List Hit) (s : Span) → s.barred ≡ false
    → (opens k kept s ≡ true) ↔ ((0 < s.ceiling) × ((length kept < k) ⊎ (kth k kept < s.ceiling)))
opens_plain k kept s b = (there, back)
  where
    there : opens k kept s ≡ true → (0 < s.ceiling) × ((length kept < k) ⊎ (kth k kept < s.ceiling))
    there e = let o = opens-true k kept s e in (o.some, inr ((beats-plain s.ceiling (kth k kept)).0 o.more))

    back : (0 < s.ceiling) × ((length kept < k) ⊎ (kth k kept < s.ceiling)) → opens k kept s ≡ true
    back o = open_when k kept s (record { free = b; some = o.0; more = (beats-plain s.ceiling (kth k kept)).1 (⊎_elim (λ l. omega (arith, kth-short k kept l)) (λ l. l) o.1) })

-- an interval that is not opened would have left the keeper as it is
shut-keeps : (k n : ℕ) (kept : List Hit) (s : Span) → Upto k n kept → Rising n s.hits → Fair s → opens k kept s ≡ false → keeps k kept s.hits ≡ kept
shut-keeps k n kept s i r c e = go s.hits r c.capped c.bare (opens-false k kept s e)
  where
    go : (hs : List Hit) → Rising n hs → All (λ h. (1 ≤ h.score) × (h.score ≤ s.ceiling)) hs → (s.barred ≡ true → hs ≡ []) → Shut k kept s → keeps k kept hs ≡ kept
    go [] r c b w = refl
    go (h ∷ hs) r c b (inl t) = ap (keeps k kept) (b t)
    go (h ∷ hs) r c b (inr (inl z)) = absurd (omega arith)
    go (h ∷ hs) r c b (inr (inr u)) =
        let full : k ≤ length kept = unbeaten_full k s.ceiling kept (omega arith) u in
        keeps_full k s.ceiling kept (h ∷ hs) (omega (arith, i.few)) i.ordered u
        (All_both (h ∷ hs) (λ x w d. (w.1, All_map kept (λ y m. omega arith) i.low)) c (rising-above n (h ∷ hs) r))

pub step_keeps : (k n : ℕ) (kept : List Hit) (s : Span) → Upto k n kept → Rising n s.hits → Fair s → step k (done kept) s ≡ done (keeps k kept s.hits)
step_keeps k n kept s i r c =
    split (opens k kept s) (λ e. rw (e, c.right)) (λ e. rw e (ap {B = Outcome (List Hit)} (λ t. done t) (sym (shut-keeps k n kept s i r c e))))

-- Pruning, from any point
pub prune_from : (k n : ℕ) (kept : List Hit) (ss : List Span) → Upto k n kept → Rising n (all_hits ss) → All Fair ss
    → search_from k (done kept) ss ≡ done (keeps k kept (all_hits ss))
prune_from k n kept [] i r c = refl
prune_from k n kept (s ∷ ss) i r c =
    let front : Rising n s.hits = rising-front n s.hits (all_hits ss) r in
    rw (step_keeps k n kept s i front c.0, foldl-append (keep k) kept s.hits (all_hits ss))
    (prune_from k (last_doc n s.hits) (keeps k kept s.hits) ss (keeps-upto k n kept s.hits i front) (rising-rest n s.hits (all_hits ss) r) c.1)

pub search-best : (k : ℕ) (ss : List Span) → Sound ss → search k ss ≡ done (best k (all_hits ss))
search-best k ss s = prune_from k 0 [] ss (upto-none k 0) s.rising s.fair

pub search-ranking : (k : ℕ) (ss : List Span) → Sound ss → search k ss ≡ done (ranking k (all_hits ss))
search-ranking k ss s = rw (sym (best-ranking k (all_hits ss))) (search-best k ss s)

-- What is kept before an interval is the best of the hits of the earlier intervals
all_hits-append : (xs ys : List Span) → all_hits (xs ++ ys) ≡ all_hits xs ++ all_hits ys
all_hits-append [] ys = refl
all_hits-append (x ∷ xs) ys = rw (all_hits-append xs ys) (sym (append_assoc x.hits (all_hits xs) (all_hits ys)))

pub sound-front : (xs ys : List Span) → Sound (xs ++ ys) → Sound xs
sound-front xs ys s = record {
  rising = rising-front 0 (all_hits xs) (all_hits ys) (rw (all_hits-append xs ys) at s.rising);
  fair = All_front Fair xs ys s.fair;
}

-- the mark of an interval, on any shelf
mark-from : (k : ℕ) (now : Outcome (List Hit)) (pre : List Span) (s : Span) (post : List Span)
    → get_or (marks_from k now (pre ++ s ∷ post)) (length pre) 0 ≡ mark k (search_from k now pre) s
mark-from k now [] s post = refl
mark-from k now (p ∷ pre) s post = mark-from k (step k now p) pre s post

pub mark-at : (k : ℕ) (pre : List Span) (s : Span) (post : List Span) → get_or (marks k (pre ++ s ∷ post)) (length pre) 0 ≡ mark k (search k pre) s
mark-at k pre s post = mark-from k (done []) pre s post

-- of the sorted hits only the first k matter
pub opens-best : (k : ℕ) (hs : List Hit) (s : Span) → 1 ≤ k → opens k (best k hs) s ≡ opens k (sort hs) s
unfolding opens
opens-best k hs s l = rw (best-ranking k hs, kth-take k (sort hs) l)

-- the mark of an interval, on sound ones
pub mark-best : (k : ℕ) (hs : List Hit) (s : Span) → 1 ≤ k → s.fault ≡ none → mark k (done (best k hs)) s ≡ cond (opens k (sort hs) s) 1 0
unfolding opens
mark-best k hs s l r = rw (r, opens-best k hs s l)

pub mark-sound : (k : ℕ) (pre : List Span) (s : Span) (post : List Span) → 1 ≤ k → Sound (pre ++ s ∷ post)
    → get_or (marks k (pre ++ s ∷ post)) (length pre) 0 ≡ cond (opens k (sort (all_hits pre)) s) 1 0
mark-sound k pre s post l ok =
    mark-at k pre s post
    ∙ ap {B = ℕ} (λ t. mark k t s) (search-best k pre (sound-front pre (s ∷ post) ok))
    ∙ mark-best k (all_hits pre) s l (All_rest Fair pre (s ∷ post) ok.fair).0.right

-- "skipped exactly when .."
abbrev pub Skipped : ℕ → List Hit → Span → Type 0
Skipped k earlier s = (s.barred ≡ true) ⊎ ((s.ceiling ≡ 0) ⊎ ((k ≤ length earlier) × (s.ceiling ≤ kth k (sort earlier))))

pub shut-plain : (k : ℕ) (earlier : List Hit) (s : Span) → (opens k (sort earlier) s ≡ false) ↔ Skipped k earlier s
shut-plain k earlier s = (λ e. there (opens-false k (sort earlier) s e), λ w. shut_when k (sort earlier) s (back w))
  where
    there : Shut k (sort earlier) s → Skipped k earlier s
    there (inl b) = inl b
    there (inr (inl z)) = inr (inl z)
    there (inr (inr u)) =
        split (ltb 0 s.ceiling)
        (λ p. inr (inr (omega (arith, unbeaten_full k s.ceiling (sort earlier) (ltb-true _ _ p) u, sort-length earlier), (unbeaten_plain s.ceiling (kth k (sort earlier))).0 u)))
        (λ p. inr (inl (omega (arith, ltb-false))))

    back : Skipped k earlier s → Shut k (sort earlier) s
    back (inl b) = inl b
    back (inr (inl z)) = inr (inl z)
    back (inr (inr h)) = inr (inr ((unbeaten_plain s.ceiling (kth k (sort earlier))).1 h.1))

pub zero_or_one : (t : Bool) → ◌≡◌ {A = ℕ} (cond t 1 0) 0 → t ≡ false
zero_or_one true e = absurd (omega arith)
zero_or_one false e = refl

pub one_or_zero : (t : Bool) → ◌≡◌ {A = ℕ} (cond t 1 0) 1 → t ≡ true
one_or_zero true e = refl
one_or_zero false e = absurd (omega arith)

pub skip_rule : (k : ℕ) (pre : List Span) (s : Span) (post : List Span) → 1 ≤ k → Sound (pre ++ s ∷ post)
    → (get_or (marks k (pre ++ s ∷ post)) (length pre) 0 ≡ 0) ↔ Skipped k (all_hits pre) s
skip_rule k pre s post l ok =
    let m = mark-sound k pre s post l ok in
    let w = shut-plain k (all_hits pre) s in (
      λ e. w.0 (zero_or_one (opens k (sort (all_hits pre)) s) (sym m ∙ e)),
      λ h. m ∙ ap {B = ℕ} (λ t. cond t 1 0) (w.1 h),
    )

-- "every interval opened for j is opened for k"
pub opens-more : (j k : ℕ) (hs : List Hit) (s : Span) → j ≤ k → opens j (sort hs) s ≡ true → opens k (sort hs) s ≡ true
opens-more j k hs s m e =
    let o : Open j (sort hs) s = opens-true j (sort hs) s e in
    open_when k (sort hs) s (record { free = o.free; some = o.some; more = beats_less s.ceiling _ _ (kth-more j k hs m) o.more })

pub opened-more : (j k : ℕ) (pre : List Span) (s : Span) (post : List Span) → 1 ≤ j → j ≤ k → Sound (pre ++ s ∷ post)
    → get_or (marks j (pre ++ s ∷ post)) (length pre) 0 ≡ 1 → get_or (marks k (pre ++ s ∷ post)) (length pre) 0 ≡ 1
opened-more j k pre s post l m ok e =
    mark-sound k pre s post (omega arith) ok
    ∙ ap {B = ℕ} (λ t. cond t 1 0)
    (opens-more j k (all_hits pre) s m (one_or_zero (opens j (sort (all_hits pre)) s) (sym (mark-sound j pre s post l ok) ∙ e)))

-- past the interval where the search stopped nothing is reached
pub marks-past : (k n at : ℕ) (ss : List Span) → marks_from k (refused n at) ss ≡ map (λ s. 3) ss
marks-past k n at [] = refl
marks-past k n at (s ∷ ss) = ap {B = List ℕ} (λ t. 3 ∷ t) (marks-past k n at ss)
