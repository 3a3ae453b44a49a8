-- The lists stand: one is entered, the others keep what they have; all are entered one after another; an interval is run. Assumes nothing.
use Prim.Native.Nat.{ℕ, zero, suc, ◌+◌, ◌-◌, ◌≤◌, ◌<◌, min}
use mathlib.Core.Path.{◌≡◌, refl, sym, ap, ◌∙◌}
use mathlib.Core.Bool.{true, cond}
use mathlib.Core.Option.{Option, none, some}
use mathlib.Core.List.{List, [], ◌∷◌}
use native.Mathlib.Omega.{arith}
use lib.Dec.{ltb, eqb}
use lib.ListN.{length, get_or, set, drop, length-set}
use lib.Seq.{sets, length-sets, get_or-set_same, get_or-set_other}
use borrow.Author.Tests.{ltb-true, ltb-false, eqb-true, eqb-false, eq-eqb, ne_eqb}
use Rattle.model.specs.Limits.{max_terms}
use Rattle.model.specs.Post.{Post, docs, scores, Rising}
use Rattle.model.specs.Outcome.{Outcome, refused, done}
use Rattle.model.specs.Runs.{Asc, Bytes}
use Rattle.model.proofs.Lists.{split, bytes_drop, bytes_take}
use Rattle.wire.specs.Field.{field_len, field_value}
use Rattle.block.specs.Body.{right_body, body_run}
use Rattle.block.proofs.Contents.{right-body, run-all}
use Rattle.rank.specs.Run.{skip_term}
use Rattle.prune.specs.Cut.{Block}
use Rattle.prune.specs.Prune.{posted, fault_of, earlier}
use Rattle.scan.specs.Heads.{blank, roomy, part_of, term_of}
use Rattle.scan.specs.Load as load
use Rattle.scan.specs.Load.{head_of}
use Rattle.scan.specs.declared.head.Head.{Head}
use Rattle.scan.proofs.Loadings.{Stood, Roomed, stood, other-term, other-inside, load-room}
use Rattle.opening.specs.Table.{gap, sum_in, block_in}
use Rattle.opening.specs.Enter.{Loadable, bytes_in, new_run, Enters, body_of, is_new, Stands, AllStand, told, fault_from, new_from, EntersAll, Space, entered_from}
use Rattle.opening.specs.declared.enter.Entry.{Entry}
use Rattle.std.specs.Prelude as prelude

-- ---- a right body's docids rise

rising_asc : (n : ℕ) (ps : List Post) → Rising n ps → Asc n (docs ps)
rising_asc n [] r = tt
rising_asc n (p ∷ ps) r = (r.0, rising_asc p.doc ps r.1)

bytes-value : (s : List ℕ) → Bytes s → Bytes (field_value s)
unfolding field_value
bytes-value s h = bytes_take (field_len s) (drop 3 s) (bytes_drop 3 s h)

-- a right body's docids rise
pub rises-of : (s los his tops counts bodies : List ℕ) (m : ℕ) → Bytes s → Loadable s los his tops counts bodies m → right_body (sum_in s los his tops counts bodies m) (bytes_in s bodies m) ≡ true
    → Asc 0 (docs (body_run (sum_in s los his tops counts bodies m) (bytes_in s bodies m)))
rises-of s los his tops counts bodies m b l e =
    let r = right-body (sum_in s los his tops counts bodies m) (bytes_in s bodies m) (bytes-value (drop (get_or bodies m 0) s) (bytes_drop (get_or bodies m 0) s b)) l.some e in
    rw (run-all (sum_in s los his tops counts bodies m) (bytes_in s bodies m) r.posts r.taken r.reads) (rising_asc 0 r.posts (r.whole.rise 0 l.above))

-- ---- one list

pub stood_stands : (ds ss : List ℕ) (w p t : ℕ) (body : Outcome (List Post)) (ps : List Post) (h : Head) → posted body ≡ ps → Asc 0 (docs ps) → Stood w t ps ds ss h → Stands ds ss w body p t h
stood_stands ds ss w p t body ps h e a s = record {
  same = ap (skip_term p) s.term ∙ rw e;
  rises = rw (ap {B = List Post} (λ x. x.posts) s.term) a;
  inside = s.inside;
  own = s.own;
}

-- where the code stores nothing, and where it stores a body
module _ (s los his tops counts bodies : List ℕ) (w t was m : ℕ) (ds ss : List ℕ) (b : Bytes s) (mine : t < max_terms) (n : length ds ≡ roomy) (k : length ss ≡ roomy)
    (ok : (m ≡ gap → ⊥) → Loadable s los his tops counts bodies m) where
  loadable : (m ≡ gap → ⊥) → load.Loadable (sum_in s los his tops counts bodies m) t ds ss
  loadable g = let l = ok g in record { some = l.some; most = l.most; order = l.order; below = l.below; mine = mine; docids = n; scored = k }

  none_roomed : Roomed t [] ds ss
  none_roomed = record { mine = mine; few = omega arith; low = tt; docids = n; scored = k }

  run_roomed : Roomed t (new_run s los his tops counts bodies was m) ds ss
  run_roomed =
      split (eqb m was)
      (λ e. rw e none_roomed)
      (λ e. split (eqb m gap)
      (λ g. rw (e, g) none_roomed)
      (λ g. rw (e, g) (load-room (sum_in s los his tops counts bodies m) (bytes_in s bodies m) t ds ss (loadable (eqb-false m gap g)))))

  module _ (h : Head) (ds' ss' : List ℕ) (r : Entry) (en : Enters s los his tops counts bodies w t was m h ds ss ds' ss' r) where
    pub docs-long : length ds' ≡ roomy
    docs-long = ap length en.docids ∙ length-sets ds (part_of t) (docs (new_run s los his tops counts bodies was m)) ∙ n

    pub scores-long : length ss' ≡ roomy
    scores-long = ap length en.scored ∙ length-sets ss (part_of t) (scores (new_run s los his tops counts bodies was m)) ∙ k

    -- the list itself
    pub entered_stands : (p : ℕ) → Stands ds ss w (body_of (block_in s los his tops counts bodies) was) p t h → Stands ds' ss' w (body_of (block_in s los his tops counts bodies) m) p t r.head
    entered_stands p st =
        split (eqb m was)
        (λ e. let q : m ≡ was = eqb-true m was e in
        let a : r ≡ record { head = h; fresh = 0; wrong = prelude.None } = rw e at en.answer in
        let x : ds' ≡ ds = rw e at en.docids in
        let y : ss' ≡ ss = rw e at en.scored in
        rw (a, x, y, q) st)
        (λ e. split (eqb m gap)
        (λ g. let a : r ≡ record { head = head_of w t []; fresh = 0; wrong = prelude.None } = rw (e, g) at en.answer in
        rw (a, g) (stood_stands ds' ss' w p t (done []) [] (head_of w t []) refl tt empty))
        (λ g. split (right_body (sum_in s los his tops counts bodies m) (bytes_in s bodies m))
        (λ x. let run = body_run (sum_in s los his tops counts bodies m) (bytes_in s bodies m) in
        let a : r ≡ record { head = head_of w t run; fresh = 1; wrong = prelude.None } = rw (e, g, x) at en.answer in
        let y : ds' ≡ sets ds (part_of t) (docs run) = rw (e, g) at en.docids in
        let z : ss' ≡ sets ss (part_of t) (scores run) = rw (e, g) at en.scored in
        let ng : (m ≡ gap → ⊥) = eqb-false m gap g in
        rw (a, g, x, y, z)
        (stood_stands (sets ds (part_of t) (docs run)) (sets ss (part_of t) (scores run)) w p t (done run) run (head_of w t run) refl (rises-of s los his tops counts bodies m b (ok ng) x)
        (stood w t run ds ss (load-room (sum_in s los his tops counts bodies m) (bytes_in s bodies m) t ds ss (loadable ng)))))
        (λ x. let a : r ≡ record { head = head_of w t []; fresh = 1; wrong = prelude.Some (get_or bodies m 0) } = rw (e, g, x) at en.answer in
        rw (a, g, x) (stood_stands ds' ss' w p t (refused 8 (get_or bodies m 0)) [] (head_of w t []) refl tt empty))))
      where
        empty : Stood w t [] ds' ss' (head_of w t [])
        empty = stood w t [] ds' ss' (record { mine = mine; few = omega arith; low = tt; docids = docs-long; scored = scores-long })

    -- every other list
    pub others-stand : (u v p : ℕ) (body : Outcome (List Post)) (g : Head) → (u ≡ t → ⊥) → Stands ds ss v body p u g → Stands ds' ss' v body p u g
    others-stand u v p body g o st =
        let run = new_run s los his tops counts bodies was m in
        let e : term_of (sets ds (part_of t) (docs run)) (sets ss (part_of t) (scores run)) g ≡ term_of ds ss g = other-term t u run ds ss run_roomed g st.own o in
        rw (en.docids, en.scored) (record {
          same = ap (skip_term p) e ∙ st.same;
          rises = rw (ap {B = List Post} (λ x. x.posts) e) st.rises;
          inside = other-inside t u run ds ss run_roomed g st.own o st.inside;
          own = st.own;
        })

    pub entered-fresh : r.fresh ≡ is_new was m
    entered-fresh =
        split (eqb m was)
        (λ e. let q : m ≡ was = eqb-true m was e in
        rw (en.answer, e, eq-eqb was m (sym q)) (split (eqb m gap) (λ g. rw g) (λ g. rw g)))
        (λ e. let nq : (m ≡ was → ⊥) = eqb-false m was e in
        rw (en.answer, e, ne_eqb was m (λ z. nq (sym z)))
        (split (eqb m gap) (λ g. rw g) (λ g. rw g (split (right_body (sum_in s los his tops counts bodies m) (bytes_in s bodies m)) (λ x. rw x) (λ x. rw x)))))

    pub entered-wrong : fault_of (body_of (block_in s los his tops counts bodies) was) ≡ none → told r.wrong ≡ fault_of (body_of (block_in s los his tops counts bodies) m)
    entered-wrong f =
        split (eqb m was)
        (λ e. let q : m ≡ was = eqb-true m was e in rw (en.answer, e) (sym (rw (sym q) at f)))
        (λ e. split (eqb m gap)
        (λ g. rw (en.answer, e, g))
        (λ g. split (right_body (sum_in s los his tops counts bodies m) (bytes_in s bodies m))
        (λ x. rw (en.answer, e, g, x))
        (λ x. rw (en.answer, e, g, x))))

-- ---- the first of several faults

least-is : (a b : ℕ) → cond (ltb b a) b a ≡ min a b
least-is a b = split (ltb b a) (λ e. rw e (omega (arith, ltb-true b a e))) (λ e. rw e (omega (arith, ltb-false b a e)))

earlier_assoc : (x y z : Option ℕ) → earlier (earlier x y) z ≡ earlier x (earlier y z)
earlier_assoc none y z = refl
earlier_assoc (some a) none z = refl
earlier_assoc (some a) (some b) none = refl
earlier_assoc (some a) (some b) (some c) =
    ap some (least-is (cond (ltb b a) b a) c ∙ rw (least-is a b) (sym (least-is a (cond (ltb c b) c b) ∙ rw (least-is b c) (omega arith))))

-- the code's lesser of two offsets
pub sooner-both : (a b m : ℕ) → m ≡ min a b → some m ≡ earlier (some a) (some b)
sooner-both a b m e = ap some (e ∙ sym (least-is a b))

both_none : (x y : Option ℕ) → earlier x y ≡ none → (x ≡ none) × (y ≡ none)
both_none none y e = (refl, e)
both_none (some a) none e = let z : ◌≡◌ {A = ℕ} 0 1 = cc in absurd (omega arith)
both_none (some a) (some b) e = let z : ◌≡◌ {A = ℕ} 0 1 = cc in absurd (omega arith)

pub fault-each : (B : ℕ → Block) (blocks : List ℕ) (n t u : ℕ) → fault_from B blocks n t ≡ none → t ≤ u → u < t + n → fault_of (body_of B (get_or blocks u 0)) ≡ none
fault-each B blocks zero t u e l h = absurd (omega arith)
fault-each B blocks (suc n) t u e l h =
    let p = both_none (fault_of (body_of B (get_or blocks t 0))) (fault_from B blocks n (suc t)) e in
    split (eqb t u)
    (λ x. let q : t ≡ u = eqb-true t u x in rw (sym q) p.0)
    (λ x. let q : (t ≡ u → ⊥) = eqb-false t u x in fault-each B blocks n (suc t) u p.1 (omega arith) (omega arith))

-- ---- all lists, one after another

pub record Entering (n : ℕ) (s los his tops counts bodies weights was mets : List ℕ) (heads : List Head) (ds₀ ss₀ : List ℕ) (hs : List Head) (ds ss : List ℕ) (fresh : ℕ) (wrong : prelude.Option ℕ) (t : ℕ) : Type 0 where
  pub within : t ≤ n
  pub long : length hs ≡ n
  pub docids : length ds ≡ roomy
  pub scored : length ss ≡ roomy
  pub entered : (d : ℕ) → AllStand (block_in s los his tops counts bodies) weights ds₀ ss₀ was d heads → (u : ℕ) → u < t
      → Stands ds ss (get_or weights u 0) (body_of (block_in s los his tops counts bodies) (get_or mets u 0)) d u (get_or hs u blank)
  pub rest : (d : ℕ) → AllStand (block_in s los his tops counts bodies) weights ds₀ ss₀ was d heads → (u : ℕ) → t ≤ u → u < n
      → Stands ds ss (get_or weights u 0) (body_of (block_in s los his tops counts bodies) (get_or was u 0)) d u (get_or hs u blank)
  pub space : entered_from s los his tops counts bodies weights was mets (n - t) t (record { heads = hs; docids = ds; scored = ss })
      ≡ entered_from s los his tops counts bodies weights was mets n 0 (record { heads = heads; docids = ds₀; scored = ss₀ })
  pub few : fresh ≤ t
  pub counted : new_from was mets n 0 ≡ fresh + new_from was mets (n - t) t
  pub first : fault_from (block_in s los his tops counts bodies) was n 0 ≡ none
      → fault_from (block_in s los his tops counts bodies) mets n 0 ≡ earlier (told wrong) (fault_from (block_in s los his tops counts bodies) mets (n - t) t)

pub is-few : (a b : ℕ) → is_new a b ≤ 1
is-few a b = split (eqb b gap) (λ e. rw e (omega arith)) (λ e. rw e (split (eqb a b) (λ f. rw f (omega arith)) (λ f. rw f (omega arith))))

module _ (s los his tops counts bodies weights was mets : List ℕ) (heads : List Head) (ds₀ ss₀ : List ℕ) where
  abbrev B : ℕ → Block
  B = block_in s los his tops counts bodies

  pub entering_none : length heads ≡ max_terms → length ds₀ ≡ roomy → length ss₀ ≡ roomy
      → Entering max_terms s los his tops counts bodies weights was mets heads ds₀ ss₀ heads ds₀ ss₀ 0 prelude.None 0
  entering_none a b d = record {
    within = omega arith;
    long = a;
    docids = b;
    scored = d;
    entered = λ p st u l. absurd (omega arith);
    rest = λ p st u l k. st.each u k;
    space = refl;
    few = omega arith;
    counted = omega arith;
    first = λ e. refl;
  }

  entered-none : (t : ℕ) (x : Space) → entered_from s los his tops counts bodies weights was mets 0 t x ≡ x
  unfolding entered_from
  entered-none t x = refl

  entered-turn : (n t : ℕ) (hs : List Head) (ds ss ds' ss' : List ℕ) (r : Entry) → Enters s los his tops counts bodies (get_or weights t 0) t (get_or was t 0) (get_or mets t 0) (get_or hs t blank) ds ss ds' ss' r
      → entered_from s los his tops counts bodies weights was mets (suc n) t (record { heads = hs; docids = ds; scored = ss })
      ≡ entered_from s los his tops counts bodies weights was mets n (suc t) (record { heads = set hs t r.head; docids = ds'; scored = ss' })
  unfolding entered_from
  entered-turn n t hs ds ss ds' ss' r en = rw (en.answer, en.docids, en.scored)

  pub entering_more : (n : ℕ) (hs : List Head) (ds ss : List ℕ) (fresh : ℕ) (wrong : prelude.Option ℕ) (t : ℕ) (ds' ss' : List ℕ) (r : Entry) (more : ℕ) (less : prelude.Option ℕ) → n ≤ max_terms → t < n → Bytes s
      → ((get_or mets t 0 ≡ gap → ⊥) → Loadable s los his tops counts bodies (get_or mets t 0))
      → Entering n s los his tops counts bodies weights was mets heads ds₀ ss₀ hs ds ss fresh wrong t
      → Enters s los his tops counts bodies (get_or weights t 0) t (get_or was t 0) (get_or mets t 0) (get_or hs t blank) ds ss ds' ss' r
      → more ≡ fresh + r.fresh → told less ≡ earlier (told wrong) (told r.wrong)
      → Entering n s los his tops counts bodies weights was mets heads ds₀ ss₀ (set hs t r.head) ds' ss' more less (t + 1)
  entering_more n hs ds ss fresh wrong t ds' ss' r more less nm l b ok w en mo le =
      let mine : t < max_terms = omega arith in
      let wt = get_or weights t 0 in
      let was-t = get_or was t 0 in
      let met-t = get_or mets t 0 in
      let h = get_or hs t blank in
      let new : r.fresh ≡ is_new was-t met-t = entered-fresh s los his tops counts bodies wt t was-t met-t ds ss b mine w.docids w.scored ok h ds' ss' r en in
      let few = is-few was-t met-t in
      let left : n - t ≡ suc (n - (t + 1)) = omega arith in
      let next : suc t ≡ t + 1 = omega arith in
      record {
        within = omega arith;
        long = length-set hs t r.head ∙ w.long;
        docids = docs-long s los his tops counts bodies wt t was-t met-t ds ss b mine w.docids w.scored ok h ds' ss' r en;
        scored = scores-long s los his tops counts bodies wt t was-t met-t ds ss b mine w.docids w.scored ok h ds' ss' r en;
        entered = λ p st u k. split (eqb u t)
            (λ e. let q : u ≡ t = eqb-true u t e in
            rw (q, get_or-set_same hs t r.head blank (omega (arith, w.long)))
            (entered_stands s los his tops counts bodies wt t was-t met-t ds ss b mine w.docids w.scored ok h ds' ss' r en p (w.rest p st t (omega arith) l)))
            (λ e. let q : (u ≡ t → ⊥) = eqb-false u t e in
            rw (get_or-set_other hs t u r.head blank q)
            (others-stand s los his tops counts bodies wt t was-t met-t ds ss b mine w.docids w.scored ok h ds' ss' r en u (get_or weights u 0) p _ (get_or hs u blank) q (w.entered p st u (omega arith))));
        rest = λ p st u k j.
            let q : (u ≡ t → ⊥) = omega arith in
            rw (get_or-set_other hs t u r.head blank q)
            (others-stand s los his tops counts bodies wt t was-t met-t ds ss b mine w.docids w.scored ok h ds' ss' r en u (get_or weights u 0) p _ (get_or hs u blank) q (w.rest p st u (omega arith) j));
        space =
            let one : entered_from s los his tops counts bodies weights was mets (n - t) t (record { heads = hs; docids = ds; scored = ss })
            ≡ entered_from s los his tops counts bodies weights was mets (n - (t + 1)) (t + 1) (record { heads = set hs t r.head; docids = ds'; scored = ss' }) =
            rw left (rw next at (entered-turn (n - (t + 1)) t hs ds ss ds' ss' r en)) in
            sym one ∙ w.space;
        few = omega (arith, w.few);
        counted =
            let c : new_from was mets (n - t) t ≡ is_new was-t met-t + new_from was mets (n - (t + 1)) (t + 1) = rw (left, next) in
            omega (arith, w.counted);
        first = λ e.
            let f : fault_from B mets (n - t) t ≡ earlier (fault_of (body_of B met-t)) (fault_from B mets (n - (t + 1)) (t + 1)) = rw (left, next) in
            let g : told r.wrong ≡ fault_of (body_of B met-t) =
            entered-wrong s los his tops counts bodies wt t was-t met-t ds ss b mine w.docids w.scored ok h ds' ss' r en (fault-each B was n 0 t e (omega arith) (omega arith)) in
            w.first e
            ∙ ap (earlier (told wrong)) f
            ∙ sym (earlier_assoc (told wrong) (fault_of (body_of B met-t)) (fault_from B mets (n - (t + 1)) (t + 1)))
            ∙ ap {B = Option ℕ} (λ x. earlier (earlier (told wrong) x) (fault_from B mets (n - (t + 1)) (t + 1))) (sym g)
            ∙ ap {B = Option ℕ} (λ x. earlier x (fault_from B mets (n - (t + 1)) (t + 1))) (sym le);
      }

  earlier-none : (x : Option ℕ) → earlier x none ≡ x
  earlier-none none = refl
  earlier-none (some a) = refl

  pub entering_done : (hs : List Head) (ds ss : List ℕ) (fresh : ℕ) (wrong : prelude.Option ℕ) (t : ℕ) → max_terms ≤ t
      → Entering max_terms s los his tops counts bodies weights was mets heads ds₀ ss₀ hs ds ss fresh wrong t
      → EntersAll s los his tops counts bodies weights was mets heads ds₀ ss₀ ds ss (record { heads = hs; fresh = fresh; wrong = wrong })
  entering_done hs ds ss fresh wrong t l w =
      let e : t ≡ max_terms = omega (arith, w.within) in
      let z : max_terms - t ≡ 0 = omega arith in
      let none_left : new_from was mets (max_terms - t) t ≡ 0 = rw z in
      let no_fault : fault_from B mets (max_terms - t) t ≡ none = rw z in
      record {
        space = sym (entered-none t (record { heads = hs; docids = ds; scored = ss })) ∙ (rw z at w.space);
        stand = λ d st. record { lists = w.long; docids = w.docids; scored = w.scored; each = λ u k. w.entered d st u (omega arith) };
        fresh = sym (w.counted ∙ omega arith);
        wrong = λ f. sym (w.first f ∙ ap (earlier (told wrong)) no_fault ∙ earlier-none (told wrong));
      }
