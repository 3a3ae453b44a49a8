-- A list brought on to its next block: it has what it had, and stands or has nothing left. Assumes nothing.
use Prim.Native.Nat.{ℕ, ◌-◌, ◌≤◌, ◌<◌}
use mathlib.Core.Path.{◌≡◌, refl, sym, ap, ◌∙◌}
use mathlib.Core.Bool.{true, false}
use mathlib.Core.Option.{Option, none, some}
use mathlib.Core.List.{List, [], ◌∷◌, ◌++◌}
use native.Mathlib.Omega.{arith}
use lib.ListN.{length, take, drop}
use borrow.Author.Tests.{lt-ltb, le-ltb}
use Rattle.model.specs.Limits.{max_docid}
use Rattle.model.specs.Outcome.{refused, done}
use Rattle.model.specs.Post.{Post, post}
use Rattle.model.specs.Runs.{All, Bytes}
use Rattle.block.specs.Body.{right_body, body_run}
use Rattle.block.specs.declared.summary.Summary.{Summary}
use Rattle.block.proofs.Contents.{right-run}
use Rattle.block.proofs.Runs.{run-few, run-rises}
use Rattle.shelf.specs.Walk as shelf
use Rattle.shelf.specs.Blocks.{blocks_left, Finds}
use Rattle.shelf.specs.declared.blocks.Reading.{Reading}
use Rattle.rank.specs.Match.{Term}
use Rattle.rank.specs.Run as run
use Rattle.prune.specs.Prune.{posts_of, fault_in, earlier}
use Rattle.scan.specs.Heads.{between, head_posts}
use Rattle.scan.specs.Load.{Loadable, Loads}
use Rattle.scan.specs.declared.head.Head.{Head}
use Rattle.std.specs.Prelude.{Ok, Err}
use Rattle.scan.specs.Load.{wrong_body}
use Rattle.scan.proofs.Loadings.{load_stands, load-refused, load-others}
use Rattle.exhaustive.specs.Lists.{body_of}
use Rattle.exhaustive.specs.Merge.{on_shelf, Chain, whole, Line, Refilled}
use Rattle.exhaustive.specs.declared.fill.Left.{Left}
use Rattle.exhaustive.proofs.Chains.{Facts, sum_facts, left_low}

cons_nil : {x : Post} {xs : List Post} → x ∷ xs ≡ [] → ⊥
cons_nil e = let z : ◌≡◌ {A = ℕ} 0 1 = cc in omega arith

earlier-some : (a : ℕ) (g : Option ℕ) → earlier (some a) g ≡ none → ⊥
earlier-some a none e = let z : ◌≡◌ {A = ℕ} 0 1 = cc in omega arith
earlier-some a (some b) e = let z : ◌≡◌ {A = ℕ} 0 1 = cc in omega arith

pub stands_some : (ds ss : List ℕ) (h : Head) → h.doc < run.none → head_posts ds ss h ≡ post h.doc h.score ∷ between ds ss h.at h.end
unfolding head_posts
stands_some ds ss h d = rw (lt-ltb h.doc run.none d)

pub ended-none : (ds ss : List ℕ) (h : Head) → run.none ≤ h.doc → head_posts ds ss h ≡ []
unfolding head_posts
ended-none ds ss h d = rw (le-ltb h.doc run.none d)

module _ (s ds ss : List ℕ) (t : ℕ) (h : Head) (l : Left) (w : Line s ds ss t h l) where
  -- it stands, or has nothing left, already
  pub refill_stands : h.doc < run.none → Refilled s ds ss t h l ds ss h l
  refill_stands d =
      record { line = w; same = refl; fault = refl; settled = λ e. absurd (cons_nil (sym (stands_some ds ss h d) ∙ e)); others = λ u g o n. (refl, λ i. i) }

  pub refill-last : blocks_left s l.blocks ≡ [] → Refilled s ds ss t h l ds ss h l
  refill-last e = record { line = w; same = refl; fault = refl; settled = λ x. e; others = λ u g o n. (refl, λ i. i) }

  -- or its next block is loaded
  module _ (bytes : Bytes s) (b : shelf.Block) (m : Summary) (v e : ℕ) (next : Reading) (q : b.sum ≡ m) (f : Finds s l.blocks b v e next) where
    abbrev body : List ℕ
    body = take (e - v) (drop v s)

    chained : Chain l.top (b ∷ blocks_left s next)
    chained = rw f.left at w.behind.chain

    facts : Facts l.top m
    facts = rw q at (sum_facts l.top b.sum chained.0)

    low : m.greatest ≤ max_docid
    low =
        let a : All (λ (x : shelf.Block). x.sum.greatest ≤ max_docid) (b ∷ blocks_left s next) = rw f.left at (left_low s l.blocks bytes w.behind.rests) in
        rw q at a.0

    pub load_ok : Loadable m t ds ss
    load_ok = record {
      some = facts.some;
      most = facts.most;
      order = facts.order;
      below = low;
      mine = w.mine;
      docids = w.inside.docids;
      scored = w.inside.scored;
    }

    body-right : right_body m body ≡ true → body_of b ≡ done (body_run m body)
    body-right r = rw (q, f.body, r)

    body-wrong : right_body m body ≡ false → body_of b ≡ refused 8 b.body_at
    body-wrong r = rw (q, f.body, r)

    module _ (ds' ss' : List ℕ) where
      pub refill-wrong : Loads m body h.weight t ds ss ds' ss' (Err wrong_body) → fault_in (on_shelf s l.blocks) ≡ none → ⊥
      refill-wrong ld x =
          let r = body-wrong (load-refused m body h.weight t ds ss ds' ss' load_ok ld) in
          let y : earlier (some b.body_at) (fault_in (on_shelf s next)) ≡ none = rw (f.left, r) at x in
          earlier-some b.body_at (fault_in (on_shelf s next)) y

      pub refill-next : (h' : Head) → run.none ≤ h.doc → Loads m body h.weight t ds ss ds' ss' (Ok h')
          → Refilled s ds ss t h l ds' ss' h' (record { blocks = next; top = m.greatest })
      refill-next h' d ld =
          let r = load_stands m body h.weight t ds ss ds' ss' load_ok h' ld in
          let st = r.1 in
          let is = body-right r.0 in
          let posts : head_posts ds' ss' h' ≡ body_run m body = ap {B = List Post} (λ (u : Term). u.posts) st.term in
          let few = run-few m body facts.order in
          let had : head_posts ds ss h ++ posts_of (on_shelf s l.blocks) ≡ body_run m body ++ posts_of (on_shelf s next) = rw (ended-none ds ss h d, f.left, is) in
          let more : 0 < length (body_run m body) = omega (arith, (right-run m body r.0).2, facts.some) in
          record {
            line = record {
              mine = w.mine;
              inside = st.inside;
              own = st.own;
              behind = record {
                rising = rw posts (run-rises 0 m body (omega (arith, facts.above)));
                upto = rw posts few.1;
                below = low;
                rests = f.rests;
                chain = rw q at chained.1;
              };
            };
            same = ap (λ (u : Term). whole s u (record { blocks = next; top = m.greatest })) st.term ∙ ap {B = Term} (λ ps. record { weight = h.weight; posts = ps }) (sym had);
            fault = sym (rw (f.left, is));
            settled = λ x. absurd (omega (arith, more, ap length (sym posts ∙ x)));
            others = load-others m body h.weight t ds ss ds' ss' load_ok ld;
          }
