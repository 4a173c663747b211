-- A run of calls, each on what was given before: where it has come, and the handles that it has there.
use mathlib.Core.Path.{◌≡◌, refl}
use mathlib.Core.Bool.{Bool}
use mathlib.Core.List.{List, [], ◌∷◌, ◌++◌}
use Prim.Native.Nat.{ℕ, ◌≤◌, ◌<◌}
use Rattle.slices.proofs.Same.{slice_refl}
use Rattle.std.specs.Prelude.{Result, Ok, Err}
use Rattle.common.specs.Outcome.{Outcome, refused, given, Step, after}
use Rattle.common.proofs.Follow.{given_of}
use Rattle.common.specs.Runs.{Table}
use Rattle.common.proofs.Runs.{StableSpec}
use Rattle.cache.proofs.Stage as stage
use Rattle.cache.proofs.Stage.{Gave, Stage}
use Rattle.spp_steps.specs.Model.{union, Quad, mk, apply, sequence}
use Rattle.spp_steps.specs.Wf.{ValidAt}
use Rattle.spp_steps.proofs.Laws.{spp_theory, ext_refl}
use Rattle.spp.proofs.Reuse.{spp_memo}
use Rattle.spp.specs.Clauses.{store_of, seen, SameStore, Asked, Answer, AllValidAt, Noted}
use Rattle.spp.specs.declared.SPP.{SPP}
use Rattle.spp.specs.declared.SPPstore.{SPPstore}
use Rattle.spp.specs.declared.Full.{Full}
use Rattle.spp.proofs.Calls.{gave_alone, same_trans, asked_for, gave_on, lost_on, ats_ext, apply_can, mk_can}
use Rattle.spp_sequence.proofs.Calls.{sequence_can}

-- c, begun on the store s, has come to the store t, where `rest` is left to do and hs are handles
pub record Moment {A : Type 0} (s t : SPPstore) (d : ℕ) (c rest : Outcome Table A) (m m' hs : List ℕ) : Type 0 where
  pub few : s.fields ≤ 31
  pub deep : d ≤ s.fields
  pub same : SameStore s t
  pub here : Stage (spp_memo s.fields) c rest (store_of s) (store_of t) m m'
  pub at : AllValidAt (store_of t) d hs

ats_more : (σ : Table) (d : ℕ) (gs hs : List ℕ) → AllValidAt σ d gs → AllValidAt σ d hs → AllValidAt σ d (gs ++ hs)
ats_more σ d [] hs a b = b
ats_more σ d (g ∷ gs) hs a b = (a.0, ats_more σ d gs hs a.1 b)

pub start : {A : Type 0} (s : SPPstore) {d : ℕ} {c rest : Outcome Table A} {m hs : List ℕ} → Asked s.fields d (store_of s) m hs → c ≡ rest → Moment s s d c rest m m hs
start s r e = record { few = r.few; deep = r.deep; same = record { nodes = slice_refl s.nodes; fields = refl }; here = stage.begin (spp_memo s.fields) r.wf r.sound e; at = r.at }

module _ {A : Type 0} {s t : SPPstore} {d : ℕ} {c : Outcome Table A} {m m' hs : List ℕ} where
  -- a call may ask for handles that are there
  pub asks : {rest : Outcome Table A} → Moment s t d c rest m m' hs → (gs : List ℕ) → AllValidAt (store_of t) d gs → Asked t.fields d (store_of t) m' gs
  asks M gs a = asked_for M.same.fields (record { few = M.few; deep = M.deep; wf = M.here.wf; at = a; sound = M.here.sound })

  -- the call f
  module _ {B : Type 0} (f : ℕ → Step Table B) (k : B → Step Table A) (M : Moment s t d c (after (f s.fields (store_of t)) k) m m' hs) where
    pub lost : {R : Type 0} {see : R → Table → Outcome Table B} {r : R} {τ : Table} {m'' : List ℕ} → Answer t.fields see (f t.fields) (store_of t) m' r τ m'' → see r τ ≡ refused 21
        → c ≡ refused 21
    lost z e = stage.stuck (spp_memo s.fields) (f s.fields) k M.here (lost_on f M.same z e)

    pub past_with : {R : Type 0} {see : R → Table → Outcome Table B} {r : R} {u : SPPstore} {m'' : List ℕ} {b : B} {P : Table → B → Type 0}
        (gs : List ℕ) → StableSpec (spp_theory s.fields) (f s.fields) P (store_of t) → (P (store_of u) b → AllValidAt (store_of u) d gs)
        → SameStore t u → Answer t.fields see (f t.fields) (store_of t) m' r (store_of u) m'' → see r (store_of u) ≡ given (store_of u) b
        → Moment s u d c (k b (store_of u)) m m'' (gs ++ hs)
    past_with {u = u} gs can holds p z e =
        let g = gave_on f M.same z e in
        let good = given_of can g.is in
        record {
          few = M.few;
          deep = M.deep;
          same = same_trans M.same p;
          here = stage.next (spp_memo s.fields) (f s.fields) k M.here can g;
          at = ats_more (store_of u) d gs hs (holds good.holds) (ats_ext d hs good.ext M.at);
        }

  module _ {u : SPPstore} {m'' : List ℕ} {h : SPP} where
    pub past : (f : ℕ → Step Table ℕ) (k : ℕ → Step Table A) → Moment s t d c (after (f s.fields (store_of t)) k) m m' hs
        → StableSpec (spp_theory s.fields) (f s.fields) (λ τ h. ValidAt τ d h) (store_of t)
        → SameStore t u → Answer t.fields seen (f t.fields) (store_of t) m' (Ok h) (store_of u) m'' → Moment s u d c (k h.0 (store_of u)) m m'' (h.0 ∷ hs)
    past f k M can p z = past_with f k M (h.0 ∷ []) can (λ x. (x, tt)) p z refl

    pub past_sequence : (a b : ℕ) (k : ℕ → Step Table A) → Moment s t d c (after (sequence s.fields d a b (store_of t)) k) m m' hs → ValidAt (store_of t) d a → ValidAt (store_of t) d b
        → SameStore t u → Answer t.fields seen (sequence t.fields d a b) (store_of t) m' (Ok h) (store_of u) m'' → Moment s u d c (k h.0 (store_of u)) m m'' (h.0 ∷ hs)
    past_sequence a b k M x y p z = past (λ N. sequence N d a b) k M (sequence_can s.fields d M.deep a b x y (store_of t) (ext_refl (store_of t)) M.here.wf) p z

    pub past_union : (a b : ℕ) (k : ℕ → Step Table A) → Moment s t d c (after (apply s.fields union d a b (store_of t)) k) m m' hs → ValidAt (store_of t) d a → ValidAt (store_of t) d b
        → SameStore t u → Answer t.fields seen (apply t.fields union d a b) (store_of t) m' (Ok h) (store_of u) m'' → Moment s u d c (k h.0 (store_of u)) m m'' (h.0 ∷ hs)
    past_union a b k M x y p z = past (λ N. apply N union d a b) k M (apply_can s.fields d M.deep union a b x y (store_of t) (ext_refl (store_of t)) M.here.wf) p z

-- a node is the answer
pub ended : {s t : SPPstore} {d : ℕ} {c : Outcome Table ℕ} {m m' hs : List ℕ} (X : Quad) → Moment s t d c (mk X (store_of t)) m m' hs → ((i j : Bool) → ValidAt (store_of t) d (X i j)) → d < s.fields
    → (r : Result SPP Full) (τ : Table) → mk X (store_of t) ≡ seen r τ → Noted s.fields m (seen r τ) m'
ended {s} {d = d} X M a l (Ok h) τ q = (stage.finish (spp_memo s.fields) (mk X) M.here (mk_can d X l M.here.wf a) (gave_alone q)).notes
ended X M a l (Err e) τ q = tt
