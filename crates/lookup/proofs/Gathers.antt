-- The lists of a search's terms, as the walk goes on. Assumes nothing.
use Prim.Native.Nat.{ℕ, zero, suc, ◌+◌, ◌-◌, ◌≤◌, ◌<◌}
use native.Mathlib.Omega.{arith}
use native.Mathlib.Numerals.{add-one}
use mathlib.Core.Path.{◌≡◌, refl, sym, ap, ◌∙◌}
use mathlib.Core.List.{List, [], ◌∷◌, ◌++◌, map, append_assoc, append-nil}
use mathlib.Core.Bool.{Bool, true, false, cond}
use borrow.Author.Tests.{eq-eqb, ne_eqb, eqb-true, eqb-false}
use lib.Dec.{eqb}
use lib.ListN.{length, get_or, set, take, replicate, length-append, length-replicate, replicate-append-replicate}
use lib.Seq.{length-take-le}
use Rattle.model.specs.Limits.{max_terms}
use Rattle.model.specs.Outcome.{Outcome, refused, done, and_then}
use Rattle.model.specs.Runs.{All}
use Rattle.model.proofs.Lists.{split, All_map, All_append, map-length}
use Rattle.shelf.specs.Walk.{Listing, onto, walk}
use Rattle.shelf.specs.Cursor.{start, walk_step, lists_at, listing_at}
use Rattle.lookup.specs.Gather.{no_list, term_list, place_at, each, Finds, noted, Notes}
use Rattle.shelf.specs.declared.walk.Place.{Place}
use Rattle.shelf.specs.declared.walk.Walk.{Walk}
use Rattle.shelf.specs.Step as step
use Rattle.std.specs.Prelude.{Ok, Err}
use Rattle.model.specs.Refusal.{number}
use Rattle.model.specs.declared.refusal.Refusal.{Refusal}
use Rattle.shelf.proofs.Steps.{Turn, walk_start, walk_end, walk-fault}

-- ---- a list noted for the terms one by one

module _ (t v : ℕ) where
  pub noted-length : (xs run : List ℕ) → length (noted t v xs run) ≡ length run
  noted-length [] run = refl
  noted-length (x ∷ xs) [] = refl
  noted-length (x ∷ xs) (a ∷ run) = ap suc (noted-length xs run)

  store' : (i : ℕ) (xs run : List ℕ) → i < length xs → get_or xs i 0 ≡ t → eqb t t ≡ true → set (noted t v (take i xs) run) i v ≡ noted t v (take (suc i) xs) run
  store' i [] run h e q = absurd (omega arith)
  store' zero (x ∷ xs) [] h e q = refl
  store' zero (x ∷ xs) (a ∷ run) h e q = rw (e, q)
  store' (suc i) (x ∷ xs) [] h e q = refl
  store' (suc i) (x ∷ xs) (a ∷ run) h e q = ap {B = List ℕ} (λ l. cond (eqb x t) v a ∷ l) (store' i xs run (omega arith) e q)

  keep' : (i : ℕ) (xs run : List ℕ) → i < length xs → eqb (get_or xs i 0) t ≡ false → noted t v (take i xs) run ≡ noted t v (take (suc i) xs) run
  keep' i [] run h e = absurd (omega arith)
  keep' zero (x ∷ xs) [] h e = refl
  keep' zero (x ∷ xs) (a ∷ run) h e = rw e
  keep' (suc i) (x ∷ xs) [] h e = refl
  keep' (suc i) (x ∷ xs) (a ∷ run) h e = ap {B = List ℕ} (λ l. cond (eqb x t) v a ∷ l) (keep' i xs run (omega arith) e)

  pub noted_here : (i : ℕ) (xs run : List ℕ) → i < length xs → get_or xs i 0 ≡ t → set (noted t v (take i xs) run) i v ≡ noted t v (take (i + 1) xs) run
  noted_here i xs run h e = rw (add-one i) (store' i xs run h e (eq-eqb t t refl))

  pub noted_other : (i : ℕ) (xs run : List ℕ) → i < length xs → (get_or xs i 0 ≡ t → ⊥) → noted t v (take i xs) run ≡ noted t v (take (i + 1) xs) run
  noted_other i xs run h e = rw (add-one i) (keep' i xs run h (ne_eqb (get_or xs i 0) t e))

-- ---- the lists that were passed

abbrev ahead : List Listing → Outcome (List Listing) → Outcome (List Listing)
ahead passed r = and_then r (λ ls. done (passed ++ ls))

ahead-onto : (passed : List Listing) (l : Listing) (r : Outcome (List Listing)) → ahead passed (onto l r) ≡ ahead (passed ++ (l ∷ [])) r
ahead-onto passed l (refused n o) = refl
ahead-onto passed l (done ls) = ap {B = Outcome (List Listing)} (λ x. done x) (sym (append_assoc passed (l ∷ []) ls))

ahead_none : (r : Outcome (List Listing)) → r ≡ ahead [] r
ahead_none (refused n o) = refl
ahead_none (done ls) = refl

-- the list of a term, with one list more of a higher term
term-more : (x : ℕ) (passed : List Listing) (l : Listing) → All (λ m. m.place.term < l.place.term) passed →
    term_list x (passed ++ (l ∷ [])) ≡ cond (eqb x l.place.term) l (term_list x passed)
term-more x [] l low =
    split (eqb x l.place.term)
    (λ e. rw (e, eq-eqb l.place.term x (sym (eqb-true x l.place.term e))))
    (λ e. rw (e, ne_eqb l.place.term x (λ q. eqb-false x l.place.term e (sym q))))
term-more x (m ∷ passed) l low =
    split (eqb x l.place.term)
    (λ e. let q : x ≡ l.place.term = eqb-true x l.place.term e in
    rw (ne_eqb m.place.term x (omega (arith, low.0)), e) (term-more x passed l low.1 ∙ rw e))
    (λ e. let q : term_list x (passed ++ (l ∷ [])) ≡ term_list x passed = term-more x passed l low.1 ∙ rw e in rw (e, q))

of_either : (f : Place → ℕ) (b : Bool) (l m : Listing) → f (cond b l m).place ≡ cond b (f l.place) (f m.place)
of_either f true l m = refl
of_either f false l m = refl

noted-each : (f : Place → ℕ) (passed : List Listing) (l : Listing) → All (λ m. m.place.term < l.place.term) passed → (xs zs : List ℕ) →
    noted l.place.term (f l.place) xs (map (λ (t : ℕ). f (place_at t passed)) xs ++ zs) ≡ map (λ (t : ℕ). f (place_at t (passed ++ (l ∷ [])))) xs ++ zs
noted-each f passed l low [] zs = refl
noted-each f passed l low (x ∷ xs) zs =
    let here : cond (eqb x l.place.term) (f l.place) (f (place_at x passed)) ≡ f (place_at x (passed ++ (l ∷ []))) =
    sym (ap (λ (m : Listing). f m.place) (term-more x passed l low) ∙ of_either f (eqb x l.place.term) l (term_list x passed)) in
    cc (noted-each f passed l low xs zs)

-- ---- the walk that notes: the lists passed, and what is noted of them

pub record Noting (s terms : List ℕ) (n : ℕ) (as₀ cs₀ : List ℕ) (w : Walk) : Type 0 where
  pub passed : List Listing
  pub walks : walk s ≡ ahead passed (lists_at s w)
  pub low : All (λ l. l.place.term < w.floor) passed
  pub ats : as₀ ≡ each (λ (p : Place). p.at) terms n passed
  pub counts : cs₀ ≡ each (λ (p : Place). p.count) terms n passed

none_yet : (f : Place → ℕ) (xs zs : List ℕ) → f no_list.place ≡ 0 → map (λ (t : ℕ). f (place_at t [])) xs ++ zs ≡ replicate (length xs) 0 ++ zs
none_yet f [] zs e = refl
none_yet f (x ∷ xs) zs e = cc (none_yet f xs zs e)

start-each : (f : Place → ℕ) (terms : List ℕ) (n : ℕ) → f no_list.place ≡ 0 → n ≤ max_terms → length terms ≡ max_terms → replicate max_terms 0 ≡ each f terms n []
start-each f terms n e h k =
    let q : length (take n terms) ≡ n = length-take-le n terms (omega arith) in
    let r : n + (max_terms - n) ≡ max_terms = omega arith in
    sym (none_yet f (take n terms) (replicate (max_terms - n) 0) e ∙ replicate-append-replicate (length (take n terms)) (max_terms - n) 0
    ∙ ap (λ (x : ℕ). replicate x 0) (ap (λ (x : ℕ). x + (max_terms - n)) q ∙ r))

each-length : (f : Place → ℕ) (terms : List ℕ) (n : ℕ) (ls : List Listing) → n ≤ max_terms → length terms ≡ max_terms → length (each f terms n ls) ≡ max_terms
each-length f terms n ls h k =
    let xs = take n terms in
    let q : length xs ≡ n = length-take-le n terms (omega arith) in
    omega (arith, length-append (map (λ (t : ℕ). f (place_at t ls)) xs) (replicate (max_terms - n) 0), map-length (λ (t : ℕ). f (place_at t ls)) xs, length-replicate {A = ℕ} (max_terms - n) 0)

module _ (s terms : List ℕ) (n : ℕ) where
  pub noting_start : (w : Walk) → w ≡ start → n ≤ max_terms → length terms ≡ max_terms → Noting s terms n (replicate max_terms 0) (replicate max_terms 0) w
  noting_start w e h k =
      record {
        passed = [];
        walks = walk_start s ∙ rw e (ahead_none (lists_at s start));
        low = tt;
        ats = start-each (λ (p : Place). p.at) terms n refl h k;
        counts = start-each (λ (p : Place). p.count) terms n refl h k;
      }

  pub noting_turn : (as₀ cs₀ as₁ cs₁ : List ℕ) (w next : Walk) (p : Place) → Turn s w p next → Notes terms n p as₀ cs₀ as₁ cs₁ → Noting s terms n as₀ cs₀ w → Noting s terms n as₁ cs₁ next
  noting_turn as₀ cs₀ as₁ cs₁ w next p t k g =
      let l = listing_at s p in
      let below : All (λ m. m.place.term < p.term) g.passed = All_map g.passed (λ m h. omega (arith, t.rise)) g.low in
      record {
        passed = g.passed ++ (l ∷ []);
        walks = g.walks ∙ ap (λ (r : Outcome (List Listing)). ahead g.passed r) t.lists ∙ ahead-onto g.passed l (lists_at s next);
        low = All_append (λ m. m.place.term < next.floor) g.passed (l ∷ []) (All_map g.passed (λ m h. omega (arith, t.above)) below) (omega (arith, t.above), tt);
        ats = k.ats ∙ rw g.ats (noted-each (λ (q : Place). q.at) g.passed l below (take n terms) (replicate (max_terms - n) 0));
        counts = k.counts ∙ rw g.counts (noted-each (λ (q : Place). q.count) g.passed l below (take n terms) (replicate (max_terms - n) 0));
      }

  module _ (as₀ cs₀ : List ℕ) (w : Walk) (g : Noting s terms n as₀ cs₀ w) where
    pub noting_sizes : n ≤ max_terms → length terms ≡ max_terms → (length as₀ ≡ max_terms) × (length cs₀ ≡ max_terms)
    noting_sizes h k =
        (ap length g.ats ∙ each-length (λ (p : Place). p.at) terms n g.passed h k, ap length g.counts ∙ each-length (λ (p : Place). p.count) terms n g.passed h k)

    pub noting_end : walk_step s w ≡ step.End → Finds s terms n (Ok (record { ats = as₀; counts = cs₀ }))
    noting_end e =
        let all : walk s ≡ done g.passed = g.walks ∙ rw (walk_end s w e) (ap {B = Outcome (List Listing)} (λ x. done x) (append-nil g.passed)) in
        (g.passed, all, record { ats = g.ats; counts = g.counts })

    pub noting_fault : (r : Refusal) → walk_step s w ≡ step.Fault (number r.fault) r.offset → Finds s terms n (Err r)
    noting_fault r e = g.walks ∙ rw (walk-fault s w (number r.fault) r.offset e)
