-- An interval run over lists that stand: what it asks, its hits, and where the lists stand then. Assumes nothing.
use Prim.Native.Nat.{ℕ, zero, suc, ◌+◌, ◌≤◌, ◌<◌}
use mathlib.Core.Path.{◌≡◌, refl, sym, ap, subst, ◌∙◌}
use mathlib.Core.Option.{none, some}
use mathlib.Core.List.{List, [], ◌∷◌, map}
use native.Mathlib.Omega.{arith}
use lib.Dec.{eqb}
use lib.ListN.{length, get_or, length-map}
use borrow.Author.Tests.{eqb-false}
use Rattle.model.specs.Limits.{max_terms}
use Rattle.model.specs.Post.{Post, docs}
use Rattle.model.specs.Runs.{All, Asc, Bytes}
use Rattle.model.proofs.Lists.{split, All_image, get_d_map}
use Rattle.block.specs.Body.{right_body}
use Rattle.rank.specs.Rank.{Hit, keeps}
use Rattle.rank.specs.Match.{Term, Rule, any_list, hits_of, within}
use Rattle.rank.specs.Run.{skip_term, size, run_hits}
use Rattle.rank.specs.Run as rankrun
use Rattle.rank.specs.Keep.{kept_of}
use Rattle.rank.specs.declared.keep.Kept.{Kept}
use Rattle.rank.proofs.Hits.{run-within, skip_skip, skip_rises}
use Rattle.prune.specs.Cut.{Block}
use Rattle.prune.specs.Prune.{posted}
use Rattle.scan.specs.Heads.{blank, InBuffers, OwnPart, OwnParts, head_posts, term_of, terms, skip_head}
use Rattle.scan.specs.Run.{Bounds, Searched}
use Rattle.scan.specs.declared.head.Head.{Head}
use Rattle.scan.proofs.Heads.{All_at}
use Rattle.opening.specs.Table.{gap, numbered, block_in, sum_in}
use Rattle.opening.specs.Enter.{Loadable, bytes_in, body_of, Stands, AllStand, told, Enterable, EntersAll}
use Rattle.opening.specs.Turn.{term_met, Openable, Opens}
use Rattle.opening.proofs.Numbers.{numbered-all}
use Rattle.opening.proofs.Standings.{rises-of}
use Rattle.std.specs.Prelude as prelude

-- ---- one list

skip_one : (f g : ℕ) (t : Term) → f ≤ g → skip_term g (skip_term f t) ≡ skip_term g t
skip_one f g t l = ap {B = Term} (λ xs. get_or xs 0 t) (skip_skip f g (t ∷ []) l)

-- a list that stands from p on stands from any later docid on
pub stands_on : (ds ss : List ℕ) (w p d t : ℕ) (h : Head) {body : _} → p ≤ d → Stands ds ss w body p t h → Stands ds ss w body d t h
stands_on ds ss w p d t h {body} l s = record {
  same = sym (skip_one p d (term_of ds ss h) l) ∙ ap (skip_term d) s.same ∙ skip_one p d (record { weight = w; posts = posted body }) l;
  rises = s.rises;
  inside = s.inside;
  own = s.own;
}

pub all-stand-on : (B : ℕ → Block) (ws ds ss blocks : List ℕ) (p d : ℕ) (hs : List Head) → p ≤ d → AllStand B ws ds ss blocks p hs → AllStand B ws ds ss blocks d hs
all-stand-on B ws ds ss blocks p d hs l s = record {
  lists = s.lists;
  docids = s.docids;
  scored = s.scored;
  each = λ t k. stands_on ds ss (get_or ws t 0) p d t (get_or hs t blank) l (s.each t k);
}

-- ---- all lists, from what holds of each

all-heads : (P : Head → Type 0) (hs : List Head) → ((i : ℕ) → i < length hs → P (get_or hs i blank)) → All P hs
all-heads P [] f = tt
all-heads P (h ∷ hs) f = (f 0 (omega arith), all-heads P hs (λ i l. f (suc i) (omega arith)))

own-parts : (t : ℕ) (hs : List Head) → ((i : ℕ) → i < length hs → OwnPart (t + i) (get_or hs i blank)) → OwnParts t hs
own-parts t [] f = tt
own-parts t (h ∷ hs) f =
    let e : t + 0 ≡ t = omega arith in
    (subst (λ x. OwnPart x h) e (f 0 (omega arith)), own-parts (suc t) hs (λ i l. let q : t + suc i ≡ suc t + i = omega arith in subst (λ x. OwnPart x (get_or hs i blank)) q (f (suc i) (omega arith))))

own_at : (t : ℕ) (hs : List Head) (i : ℕ) → i < length hs → OwnParts t hs → OwnPart (t + i) (get_or hs i blank)
own_at t [] i l o = absurd (omega arith)
own_at t (h ∷ hs) zero l o = let e : t ≡ t + 0 = omega arith in subst (λ x. OwnPart x h) e o.0
own_at t (h ∷ hs) (suc i) l o = let q : suc t + i ≡ t + suc i = omega arith in subst (λ x. OwnPart x (get_or hs i blank)) q (own_at (suc t) hs i (omega arith) o.1)

terms-from : (ds ss : List ℕ) (d : ℕ) (T : ℕ → Term) (hs : List Head) (f : ℕ) → ((i : ℕ) → i < length hs → skip_term d (term_of ds ss (get_or hs i blank)) ≡ skip_term d (T (f + i)))
    → map (skip_term d) (terms ds ss hs) ≡ map (skip_term d) (numbered T (length hs) f)
terms-from ds ss d T [] f h = refl
terms-from ds ss d T (x ∷ hs) f h =
    let e : f + 0 ≡ f = omega arith in
    let first : skip_term d (term_of ds ss x) ≡ skip_term d (T f) = rw e at (h 0 (omega arith)) in
    let rest : map (skip_term d) (terms ds ss hs) ≡ map (skip_term d) (numbered T (length hs) (suc f)) =
    terms-from ds ss d T hs (suc f) (λ i l. let q : f + suc i ≡ suc f + i = omega arith in rw q at (h (suc i) (omega arith))) in
    cc

-- ---- lists that stand alike from an interval's first docid on have the same hits in it
same-hits : (m : Rule) (first last : ℕ) (us vs : List Term) → last < rankrun.none → map (skip_term first) us ≡ map (skip_term first) vs
    → All (λ t. Asc 0 (docs t.posts)) us → All (λ t. Asc 0 (docs t.posts)) vs → within first last (hits_of m us) ≡ within first last (hits_of m vs)
same-hits m first last us vs l e a b =
    sym (run-within m first last us l a)
    ∙ ap {B = List Hit} (λ t. run_hits m (size t) last t) e
    ∙ run-within m first last vs l b

-- ---- the bodies met

module _ (s los his tops counts bodies : List ℕ) (b : Bytes s) where
  -- whatever they are, the docids of their postings rise
  pub body-rises : (m : ℕ) → ((m ≡ gap → ⊥) → Loadable s los his tops counts bodies m) → Asc 0 (docs (posted (body_of (block_in s los his tops counts bodies) m)))
  body-rises m ok =
      split (eqb m gap)
      (λ g. rw g tt)
      (λ g. rw g (split (right_body (sum_in s los his tops counts bodies m) (bytes_in s bodies m))
      (λ e. rw e (rises-of s los his tops counts bodies m b (ok (eqb-false m gap g)) e))
      (λ e. rw e tt)))

  module _ (weights was mets : List ℕ) (heads : List Head) (ds ss ds' ss' : List ℕ) (first last k : ℕ) (kept : Kept)
      (en : Enterable s los his tops counts bodies weights was mets ds ss) (op : Openable s los his tops counts bodies weights was heads ds ss first last k kept)
      (hs : List Head) (fresh : ℕ) (wrong : prelude.Option ℕ) (al : EntersAll s los his tops counts bodies weights was mets heads ds ss ds' ss' (record { heads = hs; fresh = fresh; wrong = wrong })) where
    stood : AllStand (block_in s los his tops counts bodies) weights ds' ss' mets first hs
    stood = al.stand first op.stand

    -- what the run asks
    pub open_asks : Bounds ds' ss' hs first last k kept
    open_asks =
        let st = stood in
        record {
          inside = all-heads (InBuffers ds' ss') hs (λ i l. (st.each i (omega (arith, st.lists))).inside);
          parts = own-parts 0 hs (λ i l. let e : 0 + i ≡ i = omega arith in subst (λ x. OwnPart x (get_or hs i blank)) (sym e) (st.each i (omega (arith, st.lists))).own);
          rising = All_image (term_of ds' ss') (λ t. Asc 0 (docs t.posts)) hs (all-heads (λ h. Asc 0 (docs (head_posts ds' ss' h))) hs (λ i l. (st.each i (omega (arith, st.lists))).rises));
          from = op.from;
          below = omega (arith, op.below);
          room = op.room;
          least = op.least;
          most = op.most;
          order = op.order;
        }

    pub open-stopped : (o : ℕ) → wrong ≡ prelude.Some o → Opens s los his tops counts bodies weights was mets heads ds ss ds' ss' first last k kept (record { heads = hs; kept = kept; fresh = fresh; wrong = wrong })
    open-stopped o l =
        let z : told wrong ≡ some o = rw l in
        record {
          fresh = al.fresh;
          wrong = al.wrong op.right;
          hits = λ e. absurd (some-none o (sym z ∙ e));
          rows = λ e. absurd (some-none o (sym z ∙ e));
          stopped = λ at x. (refl, ap {B = List Head} (λ x. x.heads) al.space);
          room = op.room;
          order = op.order;
          stand = λ e. absurd (some-none o (sym z ∙ e));
          docids = ap {B = List ℕ} (λ x. x.docids) al.space;
          scored = ap {B = List ℕ} (λ x. x.scored) al.space;
          moved = λ e. absurd (some-none o (sym z ∙ e));
        }
      where
        some-none : (a : ℕ) → some a ≡ none → ⊥
        some-none a e = let z : ◌≡◌ {A = ℕ} 0 1 = cc in omega arith

    module _ (past : List Head) (best : Kept) (sr : Searched ds' ss' hs first last k kept (record { kept = best; heads = past })) where
      more : length past ≡ max_terms
      more = sym (length-map past (term_of ds' ss')) ∙ ap length sr.left ∙ length-map (terms ds' ss' hs) (skip_term (suc last)) ∙ length-map hs (term_of ds' ss') ∙ stood.lists

      met-rises : All (λ t. Asc 0 (docs t.posts)) (numbered (term_met (block_in s los his tops counts bodies) weights mets) max_terms 0)
      met-rises = numbered-all (λ t. Asc 0 (docs t.posts)) (term_met (block_in s los his tops counts bodies) weights mets) max_terms 0
          (λ i a l. body-rises (get_or mets i 0) (en.each i (omega arith)))

      stand-alike : map (skip_term first) (terms ds' ss' hs) ≡ map (skip_term first) (numbered (term_met (block_in s los his tops counts bodies) weights mets) max_terms 0)
      stand-alike =
          let st = stood in
          rw st.lists at (terms-from ds' ss' first (term_met (block_in s los his tops counts bodies) weights mets) hs 0
          (λ i l. let e : 0 + i ≡ i = omega arith in rw e (st.each i (omega (arith, st.lists))).same))

      past-at : (i : ℕ) → i < max_terms → term_of ds' ss' (get_or past i blank) ≡ skip_term (suc last) (term_of ds' ss' (get_or hs i blank))
      past-at i l =
          sym (get_d_map (term_of ds' ss') blank past i)
          ∙ ap {B = Term} (λ ts. get_or ts i (term_of ds' ss' blank)) sr.left
          ∙ at i hs (omega (arith, stood.lists))
        where
          at : (i : ℕ) (xs : List Head) → i < length xs → get_or (map (skip_term (suc last)) (terms ds' ss' xs)) i (term_of ds' ss' blank) ≡ skip_term (suc last) (term_of ds' ss' (get_or xs i blank))
          at i [] l = absurd (omega arith)
          at zero (x ∷ xs) l = refl
          at (suc i) (x ∷ xs) l = at i xs (omega arith)

      past_stands : (i : ℕ) → i < max_terms → Stands ds' ss' (get_or weights i 0) (body_of (block_in s los his tops counts bodies) (get_or mets i 0)) (suc last) i (get_or past i blank)
      past_stands i l =
          let st = stands_on ds' ss' (get_or weights i 0) first (suc last) i (get_or hs i blank) op.from (stood.each i l) in
          let e = past-at i l in
          let own : OwnPart (0 + i) (get_or past i blank) = own_at 0 past i (omega (arith, more)) sr.parts in
          let z : 0 + i ≡ i = omega arith in
          record {
            same = ap (skip_term (suc last)) e ∙ skip_one (suc last) (suc last) (term_of ds' ss' (get_or hs i blank)) (omega arith) ∙ st.same;
            rises = rw (ap {B = List Post} (λ t. t.posts) e) (skip_rises 0 (suc last) (term_of ds' ss' (get_or hs i blank) ∷ []) (st.rises, tt)).0;
            inside = All_at (InBuffers ds' ss') past i (omega (arith, more)) sr.inside;
            own = subst (λ x. OwnPart x (get_or past i blank)) z own;
          }

      pub open_done : wrong ≡ prelude.None → Opens s los his tops counts bodies weights was mets heads ds ss ds' ss' first last k kept (record { heads = past; kept = best; fresh = fresh; wrong = wrong })
      open_done l =
          record {
            fresh = al.fresh;
            wrong = al.wrong op.right;
            hits = λ e. sr.kept
                ∙ ap (keeps k (kept_of kept)) (same-hits any_list first last (terms ds' ss' hs) (numbered (term_met (block_in s los his tops counts bodies) weights mets) max_terms 0) (omega (arith, op.below)) stand-alike open_asks.rising met-rises);
            rows = λ e. sr.rows;
            stopped = λ at x. let z : prelude.None ≡ prelude.Some at = sym l ∙ x in let y : ◌≡◌ {A = ℕ} 0 1 = cc in absurd (omega arith);
            room = sr.room;
            order = sr.order;
            stand = λ e. record { lists = more; docids = stood.docids; scored = stood.scored; each = past_stands };
            docids = ap {B = List ℕ} (λ x. x.docids) al.space;
            scored = ap {B = List ℕ} (λ x. x.scored) al.space;
            moved = λ e. sr.moved ∙ ap {B = List Head} (λ x. map (skip_head ds' ss' (suc last)) (map (skip_head ds' ss' first) x.heads)) al.space;
          }
