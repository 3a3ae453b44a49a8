-- Demand 1: every entry point "refuses at the first fault in the stated order by its number, and never without one". Assumes nothing.
use Prim.Native.Nat.{ℕ, zero, suc, ◌≤◌, ◌<◌, min, max}
use native.Mathlib.Omega.{arith}
use mathlib.Core.Path.{◌≡◌, refl, sym, ap, ◌∙◌}
use mathlib.Core.Bool.{Bool, true, false, false≢true, not, cond, ◌&&◌}
use mathlib.Core.Logic.{◌↔◌}
use mathlib.Core.Option.{Option, none, some}
use mathlib.Core.List.{List, [], ◌∷◌, ◌++◌}
use borrow.Author.Tests.{ltb-true, ltb-false}
use lib.Dec.{leb, ltb, eqb}
use lib.ListN.{length, drop}
use Rattle.std.specs.Prelude.{Some, None, Result, Ok, Err}
use Rattle.std.specs.Prelude as prelude
use Rattle.model.specs.Limits.{max_docid, max_k, max_terms, max_postings}
use Rattle.model.specs.Outcome.{Outcome, refused, done, and_then}
use Rattle.model.specs.Post.{Post, postings}
use Rattle.model.specs.Runs.{All}
use Rattle.model.proofs.Lists.{split, both_ways}
use Rattle.shelf.specs.Walk.{Block, Listing, posts_of, walk}
use Rattle.shelf.specs.Check.{bad_body, bad_lists, verdict, checked, judged}
use Rattle.shelf.specs.Answers.{placed}
use Rattle.lookup.specs.Find.{find_of, found}
use Rattle.lookup.specs.Show.{block_of, summary_shown, body_shown, span_of, summary_of_block, part_of_block}
use Rattle.lookup.proofs.Shows.{summary-refused, body_refused}
use Rattle.lookup.proofs.Showings.{shown-summary, shown-body}
use Rattle.lookup.specs.Gather.{term_list, term_blocks}
use Rattle.list.specs.Write.{fault_at, list_bytes, write_list}
use Rattle.list.specs.Read.{held_by, in_room, read_blocks, read_list}
use Rattle.change.specs.Edits.{Edit}
use Rattle.change.specs.Bytes.{Piece, pieces, joined, changed, in_range, there, within, settled, edited}
use Rattle.query.specs.Query.{Question, question, terms_in, unless, field_count, all_right, weighted, unrepeated, judge, asked}
use Rattle.query.proofs.Accepted.{accepted}
use Rattle.rank.specs.Rank.{Hit}
use Rattle.rank.specs.Match.{any_list}
use Rattle.prune.specs.Cut.{starts}
use Rattle.prune.specs.Search.{unless as exhausted}
use Rattle.prune.specs.Prune.{never, fault_all, exhaustive, pruned}
use Rattle.exhaustive.specs.Lists.{listings_of}
use Rattle.exhaustive.specs.Exhaustive.{rank_all}
use Rattle.intervals.specs.Blocks.{room_for}
use Rattle.pruned.specs.Pruned.{Sought, fitting, sought, answer, searched}
use Rattle.convert.specs.Convert.{listed, turned_pieces, turning, converted}
use Rattle.promises.specs.Refusals.{Fault, row, first_fault, IsFirst, k_in, terms_read, terms_asked, fields_faults, query_faults, lists_of, walk_fault, body_fault, check_faults, show_faults, block_shown, block_faults, read_faults, write_faults, edit_faults, lists_asked, fault_here, rank_faults, search_faults, convert_faults}

-- ---- the order

-- the first fault is the one that applies with none before it
first-is : (fs : List Fault) (n at : ℕ) → first_fault fs ≡ refused n at → IsFirst fs n at
first-is [] n at e = let z : ◌≡◌ {A = ℕ} 0 1 = cc in absurd (omega arith)
first-is (refused m p ∷ fs) n at e = let f : refused m p ≡ refused n at = e in record { before = []; past = fs; splits = cc; clear = tt }
first-is (done tt ∷ fs) n at e =
    let w = first-is fs n at e in
    record { before = done tt ∷ w.before; past = w.past; splits = ap {B = List Fault} (λ t. done tt ∷ t) w.splits; clear = (refl, w.clear) }

is-first : (before past : List Fault) (n at : ℕ) → All (λ (f : Fault). f ≡ done tt) before → first_fault (before ++ (refused n at ∷ past)) ≡ refused n at
is-first [] past n at c = refl
is-first (f ∷ before) past n at c = rw c.0 (is-first before past n at c.1)

-- "A refusal is given exactly when its row applies and none earlier in the order does."
pub exactly-first : (fs : List Fault) (n at : ℕ) → (first_fault fs ≡ refused n at) ↔ IsFirst fs n at
exactly-first fs n at = (first-is fs n at, λ w. ap first_fault w.splits ∙ is-first w.before w.past n at w.clear)

-- "and never without one"
pub none-exactly : (fs : List Fault) → (first_fault fs ≡ done tt) ↔ All (λ (f : Fault). f ≡ done tt) fs
none-exactly fs = (there fs, back fs)
  where
    there : (gs : List Fault) → first_fault gs ≡ done tt → All (λ (f : Fault). f ≡ done tt) gs
    there [] e = tt
    there (refused n at ∷ gs) e = let z : ◌≡◌ {A = ℕ} 0 1 = cc in absurd (omega arith)
    there (done tt ∷ gs) e = (refl, there gs e)

    back : (gs : List Fault) → All (λ (f : Fault). f ≡ done tt) gs → first_fault gs ≡ done tt
    back [] c = refl
    back (g ∷ gs) c = rw c.0 (back gs c.1)

-- ---- tests one after another

module _ {A : Type 0} where
  pub when_row : (t : Bool) (n at : ℕ) (rest : Outcome A) → judged (cond t (refused n at) rest) ≡ and_then (row t n at) (λ ok. judged rest)
  when_row true n at rest = refl
  when_row false n at rest = refl

  unless-row : (t : Bool) (n at : ℕ) (rest : Outcome A) → judged (cond t rest (refused n at)) ≡ and_then (row (not t) n at) (λ ok. judged rest)
  unless-row true n at rest = refl
  unless-row false n at rest = refl

  judged-done : (f : Fault) (x : A) → judged (and_then f (λ ok. done x)) ≡ f
  judged-done (refused n at) x = refl
  judged-done (done tt) x = refl

-- one row before others
pub after : (f : Fault) {g h : Fault} → g ≡ h → and_then f (λ ok. g) ≡ and_then f (λ ok. h)
after f e = ap (λ (x : Fault). and_then f (λ ok. x)) e

last_row : (f : Fault) → f ≡ and_then f (λ ok. done tt)
last_row (refused n at) = refl
last_row (done tt) = refl

rows_append : (fs gs : List Fault) → first_fault (fs ++ gs) ≡ and_then (first_fault fs) (λ ok. first_fault gs)
rows_append [] gs = refl
rows_append (refused n at ∷ fs) gs = refl
rows_append (done tt ∷ fs) gs = rows_append fs gs

-- ---- a query

judge-rows : (a b c : Bool) (x y z : ℕ) (d e : Fault)
    → and_then (unless a 2 x) (λ ok. and_then (unless b 3 y) (λ ok. and_then (unless c 3 z) (λ ok. and_then d (λ ok. e))))
    ≡ first_fault (row (not a) 2 x ∷ row (not b) 3 y ∷ row (not c) 3 z ∷ d ∷ e ∷ [])
judge-rows false b c x y z d e = refl
judge-rows true false c x y z d e = refl
judge-rows true true false x y z d e = refl
judge-rows true true true x y z d e = after d (last_row e)

pub query_refuses : (q : List ℕ) → judged (asked q) ≡ first_fault (query_faults q)
unfolding asked judge
query_refuses q = go (field_count q)
  where
    go : (r : Result ℕ ℕ) → judged (and_then (all_right r) (λ n. and_then (judge (length q) (question (k_in q) n q)) (λ ok. done (question (k_in q) n q)))) ≡ first_fault (fields_faults q r)
    go (Err at) = refl
    go (Ok n) =
        judged-done (judge (length q) (question (k_in q) n q)) (question (k_in q) n q)
        ∙ judge-rows (ltb 0 (k_in q) && leb (k_in q) max_k) (ltb 0 (length (terms_in n (drop 4 q)))) (leb (length (terms_in n (drop 4 q))) max_terms) 0 (length q) 68 (weighted 0 (terms_in n (drop 4 q))) (unrepeated [] 0 (terms_in n (drop 4 q)))

-- ---- a shelf

body-row : (ls : List Listing) (r : prelude.Option ℕ) → judged (verdict ls r) ≡ and_then (body_fault r) (λ ok. done tt)
body-row ls None = refl
body-row ls (Some at) = refl

pub check_refuses : (s : List ℕ) → judged (checked s) ≡ first_fault (check_faults s)
unfolding checked
check_refuses s = go (walk s)
  where
    go : (o : Outcome (List Listing)) → judged (and_then o (λ ls. verdict ls (bad_lists ls))) ≡ first_fault (judged o ∷ body_fault (bad_lists (lists_of o)) ∷ [])
    go (refused n at) = refl
    go (done ls) = body-row ls (bad_lists ls)

-- ---- a list shown in place, and read

find_not : (t : ℕ) (ls : List Listing) → listed t ls ≡ false → find_of t ls ≡ refused 12 0
find_not t [] e = refl
find_not t (l ∷ ls) e = split (eqb l.place.term t) (λ f. both_ways (listed t (l ∷ ls)) (rw f) e) (λ f. rw f (find_not t ls (rw f at e)))

find_there : (t : ℕ) (ls : List Listing) → listed t ls ≡ true → find_of t ls ≡ done (term_list t ls)
find_there t [] e = absurd (false≢true e)
find_there t (l ∷ ls) e = split (eqb l.place.term t) (λ f. rw f) (λ f. rw f (find_there t ls (rw f at e)))

-- what is done with the list that is found
find_row : {A : Type 0} (t : ℕ) (ls : List Listing) (f : Listing → Outcome A) → judged (and_then (find_of t ls) f) ≡ and_then (row (not (listed t ls)) 12 0) (λ ok. judged (f (term_list t ls)))
find_row t ls f = split (listed t ls) (λ e. rw (e, find_there t ls e)) (λ e. rw (e, find_not t ls e))

-- what is taken of an answer is refused as the answer is
judged-of : {A B : Type 0} (o : Outcome A) (f : A → B) → judged (and_then o (λ x. done (f x))) ≡ judged o
judged-of (refused n at) f = refl
judged-of (done x) f = refl

placed-is : (o : Outcome Listing) → placed o ≡ and_then o (λ l. done l.place)
placed-is (refused n at) = refl
placed-is (done l) = refl

found_refuses : (t : ℕ) (s : List ℕ) → judged (found t s) ≡ first_fault (show_faults t s)
unfolding found
found_refuses t s = go (walk s)
  where
    find_only : (o : Outcome Listing) → judged o ≡ judged (and_then o (λ l. done l))
    find_only (refused n at) = refl
    find_only (done l) = refl

    go : (o : Outcome (List Listing)) → judged (and_then o (λ ls. find_of t ls)) ≡ first_fault (judged o ∷ row (not (listed t (lists_of o))) 12 0 ∷ [])
    go (refused n at) = refl
    go (done ls) = find_only (find_of t ls) ∙ find_row t ls (λ l. done l)

pub show_refuses : (t : ℕ) (s : List ℕ) → judged (placed (found t s)) ≡ first_fault (show_faults t s)
show_refuses t s = ap judged (placed-is (found t s)) ∙ judged-of (found t s) (λ (l : Listing). l.place) ∙ found_refuses t s

block-there : (bs : List Block) (j : ℕ) → j < length bs → (b : Block) × (block_of bs j ≡ done b)
block-there [] j l = absurd (omega arith)
block-there (b ∷ bs) zero l = (b, refl)
block-there (b ∷ bs) (suc j) l = block-there bs j (omega arith)

block-not : (bs : List Block) (j : ℕ) → length bs ≤ j → block_of bs j ≡ refused 12 0
block-not [] j l = refl
block-not (b ∷ bs) zero l = absurd (omega arith)
block-not (b ∷ bs) (suc j) l = block-not bs j (omega arith)

block_row : (bs : List Block) (j : ℕ) → judged (block_of bs j) ≡ and_then (row (not (ltb j (length bs))) 12 0) (λ ok. done tt)
block_row bs j = split (ltb j (length bs)) (λ e. rw (e, (block-there bs j (ltb-true _ _ e)).1)) (λ e. rw (e, block-not bs j (ltb-false _ _ e)))

module _ (t : ℕ) (s : List ℕ) (j : ℕ) where
  block-row-first : judged (block_shown t s j) ≡ first_fault (block_faults t s j)
  unfolding found
  block-row-first = go (walk s)
    where
      go : (o : Outcome (List Listing)) → judged (and_then (and_then o (λ ls. find_of t ls)) (λ l. block_of l.blocks j))
          ≡ first_fault (judged o ∷ row (not (listed t (lists_of o))) 12 0 ∷ row (not (ltb j (length (term_blocks t (lists_of o))))) 12 0 ∷ [])
      go (refused n at) = refl
      go (done ls) = find_row t ls (λ l. block_of l.blocks j) ∙ after (row (not (listed t ls)) 12 0) (block_row (term_blocks t ls) j)

  of_the_block : (summary_shown s (placed (found t s)) j ≡ summary_of_block (block_shown t s j)) × (body_shown s (placed (found t s)) j ≡ part_of_block (block_shown t s j))
  of_the_block = go (found t s) refl
    where
      go : (o : Outcome Listing) → found t s ≡ o
          → (summary_shown s (placed o) j ≡ summary_of_block (and_then o (λ l. block_of l.blocks j))) × (body_shown s (placed o) j ≡ part_of_block (and_then o (λ l. block_of l.blocks j)))
      go (refused n at) e = (summary-refused s n at j, body_refused s n at j)
      go (done l) e = (rw e at (shown-summary t s l e j), rw e at (shown-body t s l e j))

  -- what is shown of a block is of the block that the list has
  pub shows_the_block : (placed (found t s) ≡ and_then (found t s) (λ l. done l.place))
      × (summary_shown s (placed (found t s)) j ≡ and_then (block_shown t s j) (λ b. done b.sum))
      × (body_shown s (placed (found t s)) j ≡ and_then (block_shown t s j) (λ b. done (span_of b)))
  shows_the_block = (placed-is (found t s), of_the_block.0 ∙ numbers (block_shown t s j), of_the_block.1 ∙ part (block_shown t s j))
    where
      numbers : (o : Outcome Block) → summary_of_block o ≡ and_then o (λ b. done b.sum)
      numbers (refused n at) = refl
      numbers (done b) = refl

      part : (o : Outcome Block) → part_of_block o ≡ and_then o (λ b. done (span_of b))
      part (refused n at) = refl
      part (done b) = refl

  pub block_refuses : (judged (summary_shown s (placed (found t s)) j) ≡ first_fault (block_faults t s j)) × (judged (body_shown s (placed (found t s)) j) ≡ first_fault (block_faults t s j))
  block_refuses = (
    ap judged shows_the_block.1 ∙ judged-of (block_shown t s j) (λ (b : Block). b.sum) ∙ block-row-first,
    ap judged shows_the_block.2 ∙ judged-of (block_shown t s j) span_of ∙ block-row-first,
  )

room_row : (d w : ℕ) (ps : List Post) → judged (in_room d w ps) ≡ and_then (row (not (leb (length ps) (min d w))) 9 0) (λ ok. done tt)
room_row d w ps = unless-row (leb (length ps) (min d w)) 9 0 (done ps)

blocks-rows : (bs : List Block) (d w : ℕ) → judged (read_blocks bs d w) ≡ first_fault (body_fault (bad_body bs) ∷ row (not (leb (length (posts_of bs)) (min d w))) 9 0 ∷ [])
blocks-rows bs d w = go (bad_body bs)
  where
    go : (r : prelude.Option ℕ) → judged (and_then (held_by bs r) (in_room d w)) ≡ first_fault (body_fault r ∷ row (not (leb (length (posts_of bs)) (min d w))) 9 0 ∷ [])
    go (Some at) = refl
    go None = room_row d w (posts_of bs)

pub read_refuses : (t : ℕ) (s : List ℕ) (d w : ℕ) → judged (read_list t s d w) ≡ first_fault (read_faults t s d w)
unfolding read_list found
read_refuses t s d w = go (walk s)
  where
    go : (o : Outcome (List Listing)) → judged (and_then (and_then o (λ ls. find_of t ls)) (λ l. read_blocks l.blocks d w))
        ≡ first_fault (judged o ∷ row (not (listed t (lists_of o))) 12 0 ∷ body_fault (bad_body (term_blocks t (lists_of o))) ∷ row (not (leb (length (posts_of (term_blocks t (lists_of o)))) (min d w))) 9 0 ∷ [])
    go (refused n at) = refl
    go (done ls) = find_row t ls (λ l. read_blocks l.blocks d w) ∙ after (row (not (listed t ls)) 12 0) (blocks-rows (term_blocks t ls) d w)

-- ---- writing

pub write_refuses : (strip : Bool) (t : ℕ) (ds ss : List ℕ) (room : ℕ) → judged (write_list strip t ds ss room) ≡ first_fault (write_faults strip t ds ss room)
unfolding write_list
write_refuses strip t ds ss room =
    when_row (ltb max_postings (max (length ds) (length ss))) 11 0 _
    ∙ after (row (ltb max_postings (max (length ds) (length ss))) 11 0) (when_row (not (eqb (length ds) (length ss))) 10 (min (length ds) (length ss)) _
    ∙ after (row (not (eqb (length ds) (length ss))) 10 (min (length ds) (length ss))) (when_row (eqb (length ds) 0) 10 0 _
    ∙ after (row (eqb (length ds) 0) 10 0) (when_row (ltb (fault_at 0 (postings ds ss)) (length ds)) 10 (fault_at 0 (postings ds ss)) _
    ∙ after (row (ltb (fault_at 0 (postings ds ss)) (length ds)) 10 (fault_at 0 (postings ds ss))) (when_row (ltb room (length (list_bytes strip t (postings ds ss)))) 9 0 (done (list_bytes strip t (postings ds ss)))))))

-- ---- edits

settled-rows : (e : Edit) (xs : List Piece) (room : ℕ) → judged (settled e xs room)
    ≡ first_fault (row (not (there e xs)) 12 0 ∷ row (not (within (changed e xs))) 11 0 ∷ row (not (leb (length (joined (changed e xs))) room)) 9 0 ∷ [])
unfolding settled
settled-rows e xs room =
    unless-row (there e xs) 12 0 _
    ∙ after (row (not (there e xs)) 12 0) (unless-row (within (changed e xs)) 11 0 _
    ∙ after (row (not (within (changed e xs))) 11 0) (unless-row (leb (length (joined (changed e xs))) room) 9 0 (done (joined (changed e xs)))))

pub edit_refuses : (e : Edit) (s : List ℕ) (room : ℕ) → judged (edited e s room) ≡ first_fault (edit_faults e s room)
unfolding edited checked
edit_refuses e s room = unless-row (in_range e) 10 0 _ ∙ after (row (not (in_range e)) 10 0) (go (walk s))
  where
    by-body : (ls : List Listing) (r : prelude.Option ℕ) → judged (and_then (verdict ls r) (λ ms. settled e (pieces s ms) room)) ≡ and_then (body_fault r) (λ ok. judged (settled e (pieces s ls) room))
    by-body ls (Some at) = refl
    by-body ls None = refl

    go : (o : Outcome (List Listing)) → judged (and_then (and_then o (λ ls. verdict ls (bad_lists ls))) (λ ls. settled e (pieces s ls) room))
        ≡ and_then (judged o) (λ ok. and_then (body_fault (bad_lists (lists_of o))) (λ ok. first_fault (
        row (not (there e (pieces s (lists_of o)))) 12 0 ∷ row (not (within (changed e (pieces s (lists_of o))))) 11 0 ∷ row (not (leb (length (joined (changed e (pieces s (lists_of o))))) room)) 9 0 ∷ [])))
    go (refused n at) = refl
    go (done ls) = by-body ls (bad_lists ls) ∙ after (body_fault (bad_lists ls)) (settled-rows e (pieces s ls) room)

-- ---- the converter

turning-rows : (t : ℕ) (s : List ℕ) (ls : List Listing) (room : ℕ) → judged (turning t s ls room)
    ≡ first_fault (row (not (listed t ls)) 12 0 ∷ row (not (leb (length (joined (turned_pieces t s ls))) room)) 9 0 ∷ [])
unfolding turning
turning-rows t s ls room =
    unless-row (listed t ls) 12 0 _
    ∙ after (row (not (listed t ls)) 12 0) (unless-row (leb (length (joined (turned_pieces t s ls))) room) 9 0 (done (joined (turned_pieces t s ls))))

pub convert_refuses : (t : ℕ) (s : List ℕ) (room : ℕ) → judged (converted t s room) ≡ first_fault (convert_faults t s room)
unfolding converted checked
convert_refuses t s room = go (walk s)
  where
    by-body : (ls : List Listing) (r : prelude.Option ℕ) → judged (and_then (verdict ls r) (λ ms. turning t s ms room)) ≡ and_then (body_fault r) (λ ok. judged (turning t s ls room))
    by-body ls (Some at) = refl
    by-body ls None = refl

    go : (o : Outcome (List Listing)) → judged (and_then (and_then o (λ ls. verdict ls (bad_lists ls))) (λ ls. turning t s ls room))
        ≡ and_then (judged o) (λ ok. and_then (body_fault (bad_lists (lists_of o))) (λ ok. first_fault (
        row (not (listed t (lists_of o))) 12 0 ∷ row (not (leb (length (joined (turned_pieces t s (lists_of o)))) room)) 9 0 ∷ [])))
    go (refused n at) = refl
    go (done ls) = by-body ls (bad_lists ls) ∙ after (body_fault (bad_lists ls)) (turning-rows t s ls room)

-- ---- the two rankers

-- what an accepted query asks stands in its fields
record Says (q : List ℕ) (x : Question) : Type 0 where
  k : x.k ≡ k_in q
  terms : x.terms ≡ terms_asked q

says : (q : List ℕ) (x : Question) → asked q ≡ done x → Says q x
says q x e =
    let a = (accepted q x e).1 in
    record {
      k = ap (λ (y : Question). y.k) (sym a.says);
      terms = ap (λ (y : Question). y.terms) (sym a.says) ∙ ap (terms_read q) (sym a.counted);
    }

-- a ranker takes a query, then a shelf's walk; `f` is what it does then, which is refused by the rows `gs`
query_then : {A : Type 0} (q s : List ℕ) (f : Question → List Listing → Outcome A) (gs : List Fault)
    → ((x : Question) (ls : List Listing) → asked q ≡ done x → walk s ≡ done ls → judged (f x ls) ≡ first_fault gs)
    → judged (and_then (asked q) (λ x. and_then (walk s) (λ ls. f x ls))) ≡ first_fault (query_faults q ++ (walk_fault s ∷ gs))
query_then q s f gs h =
    by-query (asked q) refl
    ∙ ap (λ (o : Fault). and_then o (λ ok. first_fault (walk_fault s ∷ gs))) (query_refuses q)
    ∙ sym (rows_append (query_faults q) (walk_fault s ∷ gs))
  where
    by-walk : (x : Question) → asked q ≡ done x → (o : Outcome (List Listing)) → walk s ≡ o → judged (and_then o (λ ls. f x ls)) ≡ and_then (judged o) (λ ok. first_fault gs)
    by-walk x a (refused n at) w = refl
    by-walk x a (done ls) w = h x ls a w

    by-query : (o : Outcome Question) → asked q ≡ o → judged (and_then o (λ x. and_then (walk s) (λ ls. f x ls))) ≡ and_then (judged o) (λ ok. first_fault (walk_fault s ∷ gs))
    by-query (refused n at) a = refl
    by-query (done x) a = by-walk x a (walk s) refl

-- the lists that are searched
asked-lists : (q s : List ℕ) (x : Question) (ls : List Listing) → asked q ≡ done x → walk s ≡ done ls → listings_of x.terms ls ≡ lists_asked q s
asked-lists q s x ls a w = rw ((says q x a).terms, w)

fault-row : (f : Option ℕ) (hs : List Hit) → judged (exhausted f hs) ≡ fault_here f
fault-row none hs = refl
fault-row (some at) hs = refl

pub rank_refuses : (q s : List ℕ) (rows : ℕ) → judged (rank_all q s rows) ≡ first_fault (rank_faults q s rows)
unfolding rank_all
rank_refuses q s rows =
    query_then q s (λ x ls. cond (leb x.k rows) (exhaustive any_list x.k (listings_of x.terms ls)) (refused 9 0))
    (row (not (leb (k_in q) rows)) 9 0 ∷ fault_here (fault_all (lists_asked q s)) ∷ [])
    (λ x ls a w. rw (asked-lists q s x ls a w, (says q x a).k)
    (unless-row (leb (k_in q) rows) 9 0 _
    ∙ after (row (not (leb (k_in q) rows)) 9 0) (fault-row (fault_all (lists_asked q s)) _ ∙ last_row (fault_here (fault_all (lists_asked q s))))))

-- 9 by the rows, then by the book's runs
two_rows : {A : Type 0} (t u : Bool) (rest : Outcome A) → judged (cond t (cond u rest (refused 9 0)) (refused 9 0)) ≡ and_then (row (not (t && u)) 9 0) (λ ok. judged rest)
two_rows true true rest = refl
two_rows true false rest = refl
two_rows false u rest = refl

-- the search, once it begins
abbrev searches_for : Sought → Outcome (List Hit)
searches_for y = pruned any_list never max_docid y.k y.lists

begins : (o : Outcome Sought) (fs cs ms : List ℕ) → (answer o fs cs ms).outcome ≡ and_then o searches_for
begins (refused n at) fs cs ms = refl
begins (done y) fs cs ms = refl

module _ (q s : List ℕ) (rows : ℕ) (fs cs ms : List ℕ) where
  -- the same, step by step
  abbrev step : Question → List Listing → Outcome (List Hit)
  step x ls =
      cond (leb x.k rows)
      (cond (room_for (length (starts max_docid (listings_of x.terms ls))) (length fs) (length cs) (length ms)) (pruned any_list never max_docid x.k (listings_of x.terms ls)) (refused 9 0))
      (refused 9 0)

  steps : and_then (sought q s rows (length fs) (length cs) (length ms)) searches_for ≡ and_then (asked q) (λ x. and_then (walk s) (λ ls. step x ls))
  steps = by-query (asked q)
    where
      by-room : (x : Question) (ls : List Listing) (t u : Bool)
          → and_then (cond t (cond u (done (record { k = x.k; lists = listings_of x.terms ls })) (refused 9 0)) (refused 9 0)) searches_for
          ≡ cond t (cond u (pruned any_list never max_docid x.k (listings_of x.terms ls)) (refused 9 0)) (refused 9 0)
      by-room x ls true true = refl
      by-room x ls true false = refl
      by-room x ls false u = refl

      by-walk : (x : Question) (o : Outcome (List Listing))
          → and_then (and_then o (λ ls. cond (leb x.k rows) (fitting x.k (listings_of x.terms ls) (length fs) (length cs) (length ms)) (refused 9 0))) searches_for ≡ and_then o (λ ls. step x ls)
      by-walk x (refused n at) = refl
      by-walk x (done ls) = by-room x ls (leb x.k rows) (room_for (length (starts max_docid (listings_of x.terms ls))) (length fs) (length cs) (length ms))

      by-query : (o : Outcome Question)
          → and_then (and_then o (λ x. and_then (walk s) (λ ls. cond (leb x.k rows) (fitting x.k (listings_of x.terms ls) (length fs) (length cs) (length ms)) (refused 9 0)))) searches_for
          ≡ and_then o (λ x. and_then (walk s) (λ ls. step x ls))
      by-query (refused n at) = refl
      by-query (done x) = by-walk x (walk s)

  pub search_refuses : judged (searched q s rows fs cs ms).outcome ≡ first_fault (search_faults q s rows (length fs) (length cs) (length ms))
  unfolding searched
  search_refuses =
      ap judged (begins (sought q s rows (length fs) (length cs) (length ms)) fs cs ms ∙ steps)
      ∙ query_then q s step
      (row (not (leb (k_in q) rows && room_for (length (starts max_docid (lists_asked q s))) (length fs) (length cs) (length ms))) 9 0 ∷ judged (pruned any_list never max_docid (k_in q) (lists_asked q s)) ∷ [])
      (λ x ls a w. rw (asked-lists q s x ls a w, (says q x a).k)
      (two_rows (leb (k_in q) rows) (room_for (length (starts max_docid (lists_asked q s))) (length fs) (length cs) (length ms)) (pruned any_list never max_docid (k_in q) (lists_asked q s))
      ∙ after (row (not (leb (k_in q) rows && room_for (length (starts max_docid (lists_asked q s))) (length fs) (length cs) (length ms))) 9 0) (last_row (judged (pruned any_list never max_docid (k_in q) (lists_asked q s))))))
