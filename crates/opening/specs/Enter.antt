-- An interval entered: each list keeps its place in the block that it read already, or has the block that is met loaded. Assumes nothing.
use Rattle.std.specs.Prelude.{ℕ, zero, suc, ◌+◌, ◌≤◌, ◌<◌, ◌≡◌, cond, List, [], eqb, length, get_or, set, drop}
use Rattle.std.specs.Prelude as prelude
use Rattle.std.proofs.Math.Option.{Option, none, some}
use Rattle.std.proofs.lemmas.List.Edits.{sets}
use Rattle.model.specs.Limits.{max_docid, per_block, max_terms}
use Rattle.model.specs.Post.{Post, docs, scores}
use Rattle.model.specs.Outcome.{Outcome, done}
use Rattle.model.specs.Runs.{Asc}
use Rattle.wire.specs.Field.{field_len, field_value}
use Rattle.block.specs.Body.{right_body, body_run}
use Rattle.rank.specs.Run.{skip_term}
use Rattle.prune.specs.Cut.{Block}
use Rattle.prune.specs.Prune.{posted, fault_of, earlier}
use Rattle.scan.specs.Heads.{blank, roomy, InBuffers, OwnPart, part_of, head_posts, term_of}
use Rattle.scan.specs.Load.{head_of}
use Rattle.scan.specs.declared.head.Head.{Head}
use Rattle.opening.specs.Table.{gap, sum_in, block_in}
use Rattle.opening.specs.declared.enter.Entry.{Entry}
use Rattle.opening.specs.declared.enter.Entrance.{Entrance}

-- ---- a block that may be loaded: its summary is right, and its body is whole

pub record Loadable (shelf los his tops counts bodies : List ℕ) (i : ℕ) : Type 0 where
  pub least_in : i < length los
  pub greatest_in : i < length his
  pub top_in : i < length tops
  pub count-in : i < length counts
  pub body-in : i < length bodies
  pub above : 0 < get_or los i 0
  pub order : get_or los i 0 ≤ get_or his i 0
  pub below : get_or his i 0 ≤ max_docid
  pub some : 0 < get_or counts i 0
  pub most : get_or counts i 0 ≤ per_block
  pub whole : get_or bodies i 0 + (3 + field_len (drop (get_or bodies i 0) shelf)) ≤ length shelf

-- ---- one list: it read block `was`, and the interval meets block m

-- the bytes of a block's body, and its postings as far as they read
abbrev pub bytes_in : (shelf bodies : List ℕ) → ℕ → List ℕ
bytes_in shelf bodies m = field_value (drop (get_or bodies m 0) shelf)

-- what is put into the buffers
abbrev pub new_run : (shelf los his tops counts bodies : List ℕ) (was m : ℕ) → List Post
new_run shelf los his tops counts bodies was m =
    cond (eqb m was) [] (cond (eqb m gap) [] (body_run (sum_in shelf los his tops counts bodies m) (bytes_in shelf bodies m)))

-- the place is kept; it is at its end in a gap; a block that is new is loaded. A wrong body is told by the offset of its tag
abbrev pub entry_of : (shelf los his tops counts bodies : List ℕ) (weight t was m : ℕ) → Head → Entry
entry_of shelf los his tops counts bodies weight t was m h =
    cond (eqb m was) (record { head = h; fresh = 0; wrong = prelude.None })
    (cond (eqb m gap) (record { head = head_of weight t []; fresh = 0; wrong = prelude.None })
    (cond (right_body (sum_in shelf los his tops counts bodies m) (bytes_in shelf bodies m))
    (record { head = head_of weight t (body_run (sum_in shelf los his tops counts bodies m) (bytes_in shelf bodies m)); fresh = 1; wrong = prelude.None })
    (record { head = head_of weight t []; fresh = 1; wrong = prelude.Some (get_or bodies m 0) })))

pub record Enters (shelf los his tops counts bodies : List ℕ) (weight t was m : ℕ) (h : Head) (ds ss ds' ss' : List ℕ) (r : Entry) : Type 0 where
  pub answer : r ≡ entry_of shelf los his tops counts bodies weight t was m h
  pub docids : ds' ≡ sets ds (part_of t) (docs (new_run shelf los his tops counts bodies was m))
  pub scored : ss' ≡ sets ss (part_of t) (scores (new_run shelf los his tops counts bodies was m))

-- ---- all lists

-- the body of the block with a number, nothing in a gap
abbrev pub body_of : (ℕ → Block) → ℕ → Outcome (List Post)
body_of block m = cond (eqb m gap) (done []) (block m).body

-- whether a block is met that was not read before
abbrev pub is_new : (was m : ℕ) → ℕ
is_new was m = cond (eqb m gap) 0 (cond (eqb was m) 0 1)

-- List t stands: from docid p on it has what the body has, out of its part of the buffers
pub record Stands (ds ss : List ℕ) (weight : ℕ) (body : Outcome (List Post)) (p t : ℕ) (h : Head) : Type 0 where
  pub same : skip_term p (term_of ds ss h) ≡ skip_term p (record { weight = weight; posts = posted body })
  pub rises : Asc 0 (docs (head_posts ds ss h))
  pub inside : InBuffers ds ss h
  pub own : OwnPart t h

-- each of the lists stands, in the block that it read
pub record AllStand (block : ℕ → Block) (weights ds ss blocks : List ℕ) (p : ℕ) (heads : List Head) : Type 0 where
  pub lists : length heads ≡ max_terms
  pub docids : length ds ≡ roomy
  pub scored : length ss ≡ roomy
  pub each : (t : ℕ) → t < max_terms → Stands ds ss (get_or weights t 0) (body_of block (get_or blocks t 0)) p t (get_or heads t blank)

-- the code's answer: an offset, or that there is none
abbrev pub told : prelude.Option ℕ → Option ℕ
told (prelude.Some at) = some at
told prelude.None = none

-- the least offset of the wrong bodies among n blocks, from the t-th on
abbrev pub fault_from : (ℕ → Block) → (blocks : List ℕ) → (n t : ℕ) → Option ℕ
fault_from block blocks zero t = none
fault_from block blocks (suc n) t = earlier (fault_of (body_of block (get_or blocks t 0))) (fault_from block blocks n (suc t))

-- how many blocks are met that were not read before
abbrev pub new_from : (was mets : List ℕ) → (n t : ℕ) → ℕ
new_from was mets zero t = 0
new_from was mets (suc n) t = is_new (get_or was t 0) (get_or mets t 0) + new_from was mets n (suc t)

-- where the lists stand, and the two buffers that they read from
pub record Space : Type 0 where
  pub heads : List Head
  pub docids : List ℕ
  pub scored : List ℕ

-- n lists entered one after another, from the t-th on
unfoldable pub entered_from : (shelf los his tops counts bodies weights was mets : List ℕ) → (n t : ℕ) → Space → Space
entered_from shelf los his tops counts bodies weights was mets zero t x = x
entered_from shelf los his tops counts bodies weights was mets (suc n) t x = entered_from shelf los his tops counts bodies weights was mets n (suc t) (record {
  heads = set x.heads t (entry_of shelf los his tops counts bodies (get_or weights t 0) t (get_or was t 0) (get_or mets t 0) (get_or x.heads t blank)).head;
  docids = sets x.docids (part_of t) (docs (new_run shelf los his tops counts bodies (get_or was t 0) (get_or mets t 0)));
  scored = sets x.scored (part_of t) (scores (new_run shelf los his tops counts bodies (get_or was t 0) (get_or mets t 0)));
})

-- all of them
abbrev pub entered_all : (shelf los his tops counts bodies weights was mets : List ℕ) (heads : List Head) (ds ss : List ℕ) → Space
entered_all shelf los his tops counts bodies weights was mets heads ds ss =
    entered_from shelf los his tops counts bodies weights was mets max_terms 0 (record { heads = heads; docids = ds; scored = ss })

-- every block met may be loaded, and the buffers have their size
pub record Enterable (shelf los his tops counts bodies weights was mets ds ss : List ℕ) : Type 0 where
  pub weighted : length weights ≡ max_terms
  pub before : length was ≡ max_terms
  pub blocks : length mets ≡ max_terms
  pub docids : length ds ≡ roomy
  pub scored : length ss ≡ roomy
  pub each : (t : ℕ) → t < max_terms → (get_or mets t 0 ≡ gap → ⊥) → Loadable shelf los his tops counts bodies (get_or mets t 0)

pub record EntersAll (shelf los his tops counts bodies weights was mets : List ℕ) (heads : List Head) (ds ss ds' ss' : List ℕ) (r : Entrance) : Type 0 where
  pub space : record { heads = r.heads; docids = ds'; scored = ss' } ≡ entered_all shelf los his tops counts bodies weights was mets heads ds ss
  -- the lists that stood from a docid on stand there still, now in the blocks met
  pub stand : (d : ℕ) → AllStand (block_in shelf los his tops counts bodies) weights ds ss was d heads
      → AllStand (block_in shelf los his tops counts bodies) weights ds' ss' mets d r.heads
  pub fresh : r.fresh ≡ new_from was mets max_terms 0
  -- the wrong body that is named, where those read before were right
  pub wrong : fault_from (block_in shelf los his tops counts bodies) was max_terms 0 ≡ none → told r.wrong ≡ fault_from (block_in shelf los his tops counts bodies) mets max_terms 0
