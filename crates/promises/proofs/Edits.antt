-- Demand 3, the edits: "Start from an empty shelf and make any sequence of edits, each accepted result feeding the next, refused ones changing
-- nothing. The shelf is then sound, holds exactly the postings the accepted edits add up to, and has the bytes that one writing of them gives."
-- Assumes nothing.
use Prim.Native.Nat.{ℕ, ◌+◌, ◌≤◌}
use native.Mathlib.Omega.{arith}
use mathlib.Core.Path.{◌≡◌, refl, sym, ap, subst, ◌∙◌}
use mathlib.Core.Bool.{Bool, true, false, cond}
use mathlib.Core.List.{List, [], ◌∷◌, map}
use borrow.Author.Tests.{ltb-true, ltb-false, eqb-true, eqb-false}
use lib.Dec.{ltb, eqb}
use Rattle.model.specs.Outcome.{done}
use Rattle.model.specs.Post.{Post}
use Rattle.model.specs.Runs.{Bytes}
use Rattle.model.proofs.Lists.{split}
use Rattle.shelf.specs.Walk.{Listing, posts_of}
use Rattle.shelf.specs.Check.{checked}
use Rattle.lookup.specs.Gather.{term_list, term_blocks}
use Rattle.list.specs.Write.{Word, words_of}
use Rattle.change.specs.Edits.{Edit, Set, Clear, Withdraw, set_word, unless_empty, clear_words, clear_post, only, every, applied, stored}
use Rattle.convert.specs.Convert.{turn_words}
use Rattle.convert.proofs.Lists.{others_stay}
use Rattle.convert.proofs.Leaves.{converted-leaves}
use Rattle.edit.specs.History.{Act, Change, Convert, Try, shelf_after, accepted, add_up, History}
use Rattle.change.proofs.Postings.{Ordered, stored-applied}
use Rattle.edit.proofs.Sounds.{edit-sound, edit-holds, others_copied, ceiling-holds}
use Rattle.edit.proofs.Histories.{history}
use Rattle.query.specs.Query.{Asked, Question, asked}
use Rattle.rank.specs.Rank.{Hit, ranking}
use Rattle.rank.specs.Match.{any_list, hits_of}
use Rattle.exhaustive.specs.Lists.{term_on}
use Rattle.pruned.specs.Pruned.{searched}
use Rattle.promises.specs.Served.{matches_for, Asks, Room}
use Rattle.promises.specs.Book.{Booked}
use Rattle.promises.specs.Edits.{left_by, posts_in, term_in, matches_in, AllNamed, Accepted, Changes, Converting, Converts}
use Rattle.promises.proofs.Ranking.{gets_the_ranking}
use Rattle.promises.proofs.Written.{writing-bytes}
use Rattle.promises.proofs.Book.{booked}

pub any_edits : (es : List Try) → AllNamed es → History (shelf_after es []) (add_up (accepted es []) [])
any_edits es t = history es t

-- ---- what they add up to

ordered_less : (m n : ℕ) (xs : List Word) → m ≤ n → Ordered n xs → Ordered m xs
ordered_less m n [] l o = tt
ordered_less m n (x ∷ xs) l o = (omega (arith, o.0), o.1)

set_ordered : (floor t d w : ℕ) (xs : List Word) → floor ≤ t → Ordered floor xs → Ordered floor (set_word t d w xs)
set_ordered floor t d w [] l o = (l, tt)
set_ordered floor t d w (x ∷ xs) l o =
    split (ltb t x.term)
    (λ e. rw e (l, (omega (arith, ltb-true t x.term e), o.1)))
    (λ e. split (eqb t x.term)
    (λ f. let q : t ≡ x.term = eqb-true _ _ f in rw (e, f) (l, rw q o.1))
    (λ f. rw (e, f) (o.0, set_ordered (x.term + 1) t d w xs (omega (arith, ltb-false t x.term e, eqb-false t x.term f)) o.1)))

unless_ordered : (strip : Bool) (floor t : ℕ) (ps : List Post) (xs : List Word) → floor ≤ t → Ordered (t + 1) xs → Ordered floor (unless_empty strip t ps xs)
unless_ordered strip floor t [] xs l o = ordered_less floor (t + 1) xs (omega arith) o
unless_ordered strip floor t (p ∷ ps) xs l o = (l, o)

clear_ordered : (named : ℕ → Bool) (floor d : ℕ) (xs : List Word) → Ordered floor xs → Ordered floor (clear_words named d xs)
clear_ordered named floor d [] o = tt
clear_ordered named floor d (x ∷ xs) o =
    let ih = clear_ordered named (x.term + 1) d xs o.1 in
    split (named x.term)
    (λ m. rw m (unless_ordered x.strip floor x.term (clear_post d x.posts) (clear_words named d xs) o.0 ih))
    (λ m. rw m (o.0, ih))

applied_ordered : (e : Edit) (xs : List Word) → Ordered 0 xs → Ordered 0 (applied e xs)
unfolding applied
applied_ordered (Set t d w) xs o = set_ordered 0 t d w xs (omega arith) o
applied_ordered (Clear t d) xs o = clear_ordered (only t) 0 d xs o
applied_ordered (Withdraw d) xs o = clear_ordered every 0 d xs o

-- a conversion keeps the terms, and every posting
turn_ordered : (floor u : ℕ) (xs : List Word) → Ordered floor xs → Ordered floor (turn_words u xs)
turn_ordered floor u [] o = tt
turn_ordered floor u (x ∷ xs) o =
    let ih = turn_ordered (x.term + 1) u xs o.1 in
    split (eqb x.term u) (λ e. rw e (o.0, ih)) (λ e. rw e (o.0, ih))

stored-turned : (t d u : ℕ) (xs : List Word) → stored t d (turn_words u xs) ≡ stored t d xs
stored-turned t d u [] = refl
stored-turned t d u (x ∷ xs) =
    split (eqb x.term u) (λ e. rw (e, stored-turned t d u xs)) (λ e. rw (e, stored-turned t d u xs))

added : (t d : ℕ) (es : List Act) (ws : List Word) → Ordered 0 ws → stored t d (add_up es ws) ≡ left_by t d (stored t d ws) es
added t d [] ws o = refl
added t d (Change e ∷ es) ws o = added t d es (applied e ws) (applied_ordered e ws o) ∙ ap (λ (w : ℕ). left_by t d w es) (stored-applied e t d ws o)
added t d (Convert u ∷ es) ws o = added t d es (turn_words u ws) (turn_ordered 0 u ws o) ∙ ap (λ (w : ℕ). left_by t d w es) (stored-turned t d u ws)

pub adds-up : (es : List Try) (t d : ℕ) → stored t d (add_up (accepted es []) []) ≡ left_by t d 0 (accepted es [])
adds-up es t d = added t d (accepted es []) [] tt

-- ---- "On any other sound shelf an accepted edit likewise leaves a sound shelf with the old postings and its own change."

pub one-edit : (e : Edit) (s : List ℕ) (old : List Listing) (v : List ℕ) → Accepted e s old v → Changes e s old v
one-edit e s old v a =
    let l = edit-sound e s old a.room v a.term a.shelf-bytes a.sound a.accepted in
    record {
      leaves = l;
      only = edit-holds e s old v a.shelf-bytes a.sound l;
      copies = others_copied e s old v a.shelf-bytes a.sound l;
      capped = ceiling-holds e s old v l;
    }

-- ---- a conversion of any sound shelf

pub one_conversion : (t : ℕ) (s : List ℕ) (old : List Listing) (v : List ℕ) → Converting t s old v → Converts t s old v
one_conversion t s old v c =
    let l = converted-leaves t s old c.room v c.shelf-bytes c.sound c.accepted in
    record {
      turned = l;
      same = λ u d. rw l.holds (stored-turned u d t (words_of old));
      copies = λ u n. rw l.kept (others_stay t u s old (eqb-false u t n));
    }

-- ---- a search of what a history leaves

one_of : (b : Bool) (l m : Listing) → posts_of (cond b l m).blocks ≡ cond b (posts_of l.blocks) (posts_of m.blocks)
one_of true l m = refl
one_of false l m = refl

pub term-posts : (t : ℕ) (ls : List Listing) → posts_of (term_blocks t ls) ≡ posts_in t (words_of ls)
term-posts t [] = refl
term-posts t (l ∷ ls) = one_of (eqb l.place.term t) l (term_list t ls) ∙ ap (cond (eqb l.place.term t) (posts_of l.blocks)) (term-posts t ls)

terms-in : (ls : List Listing) (xs : List Asked) → map (term_on ls) xs ≡ map (term_in (words_of ls)) xs
terms-in ls [] = refl
terms-in ls (x ∷ xs) = rw (term-posts x.term ls, terms-in ls xs)

pub matches-in : (x : Question) (ls : List Listing) → matches_for x ls ≡ matches_in x (words_of ls)
matches-in x ls = ap (hits_of any_list) (terms-in ls x.terms)

module _ (es : List Try) (t : AllNamed es) (ls : List Listing) (sound : checked (shelf_after es []) ≡ done ls) where
  holds-words : words_of ls ≡ add_up (accepted es []) []
  holds-words = let same : ls ≡ (any_edits es t).found = let z : done ls ≡ done (any_edits es t).found = sym sound ∙ (any_edits es t).sound in cc in ap words_of same ∙ (any_edits es t).holds

  module _ (q : List ℕ) (x : Question) (b : Bytes q) (f : asked q ≡ done x) where
    -- every query without fault may be asked of it
    pub may-ask : Asks q (shelf_after es []) x ls
    may-ask = record {
      query-bytes = b;
      shelf-bytes = subst Bytes (sym (any_edits es t).bytes) (writing-bytes (add_up (accepted es []) []));
      sound = sound;
      faultless = f;
    }

    all-matches : matches_for x ls ≡ matches_in x (add_up (accepted es []) [])
    all-matches = matches-in x ls ∙ ap (matches_in x) holds-words

    module _ (rows : ℕ) (fs cs ms : List ℕ) (r : Room x ls rows fs cs ms) where
      -- the exhaustive ranking of the postings that the accepted edits add up to
      pub ranks_what_was_set : (searched q (shelf_after es []) rows fs cs ms).outcome ≡ done (ranking x.k (matches_in x (add_up (accepted es []) [])))
      ranks_what_was_set = gets_the_ranking q (shelf_after es []) x ls may-ask rows fs cs ms r ∙ ap (λ (hs : List Hit). done (ranking x.k hs)) all-matches

      pub books_what_was_set : Booked x.k (matches_in x (add_up (accepted es []) [])) (searched q (shelf_after es []) rows fs cs ms)
      books_what_was_set =
          subst (λ (hs : List Hit). Booked x.k hs (searched q (shelf_after es []) rows fs cs ms)) all-matches (booked q (shelf_after es []) x ls may-ask rows fs cs ms r)
