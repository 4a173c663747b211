-- What the queries' code cites: constructors, epsilon and delta on tables whose words 7 to 11 are changed (by `clear`, by a word that is written) give what they give on the tables as they are, so changed.
-- No hypothesis that tables are in order.
use mathlib.Core.Path.{◌≡◌, refl, sym, ◌∙◌, ap, subst}
use mathlib.Core.List.{List, [], ◌∷◌}
use Prim.Native.Nat.{ℕ, ◌+◌, ◌*◌, ◌≤◌, ◌<◌}
use native.Mathlib.Omega.{arith}
use lib.Dec.{ltb}
use lib.ListN.{length, get_or}
use borrow.Author.Tests.{ltb-true, ltb-false}
use Rattle.common.specs.Outcome.{Outcome, refused, given, Step}
use Rattle.common.specs.Runs.{Table, table, placed}
use Rattle.netkat_steps.specs.ListSteps.{Edge}
use Rattle.spp_steps.proofs.Laws.{by_test}
use Rattle.spp_steps.specs.ImageModel.{Stores}
use Rattle.aut_steps.specs.Tables.{Limits, Aut, aut, put_states}
use Rattle.book_construct_steps.specs.Lines.{Line, make}
use Rattle.aut_delta_steps.specs.Epsilon.{set_word, epsilon}
use Rattle.aut_delta_steps.specs.Delta.{Store, store, on_aut, list_at, delta}
use Rattle.aut_query_steps.specs.Tables.{Tables, diagrams, put_sets, put_base, put_relations, on_sets, on_base, making_sets, making_relations, live_of}
use Rattle.aut_query_steps.specs.Live.{keep_in, keep_lives}
use Rattle.aut_free.proofs.Alike.{Framed, AlikeWords, AlikeAut, AlikeStore, AlikeRuns, stops, comes}
use Rattle.aut_free.specs.Clear.{in_aut, in_store, in_tables, clear, clear_tables}
use Rattle.aut_free.proofs.Clear.{cleared, Beyond, writing, clear_aut, clear_store, AtRest}
use Rattle.aut_free.proofs.Twin.{by_twins}
use Rattle.aut_free.proofs.Constructors.{make_free}
use Rattle.aut_free.proofs.Deltas.{epsilon_alike, on_aut_lem, list_at_same, delta_alike}
use Rattle.aut_free.proofs.Clearing.{same_words_lem, clear_kept, clear_rest, clear_set, clear_live, clear_beyond, writing_beyond}

-- ---- from alike runs to an equation

framed_refl : (s : List ℕ) → Framed s s
framed_refl s = record { len = refl; words = λ x w l m. refl }

-- tables that differ in words 7 to 11 only, at the start of a run
pub alike_words : (s t : List ℕ) → length s ≡ length t → ((x w : ℕ) → w < 7 → get_or s (12 * x + w) 0 ≡ get_or t (12 * x + w) 0) → AlikeWords s t s t
alike_words s t e h = record { len = e; same = h; left = framed_refl s; right = framed_refl t }

module _ {φ : List ℕ → List ℕ} (b : Beyond φ) where
  changed_words : (s : List ℕ) → AlikeWords s (φ s) s (φ s)
  changed_words s = alike_words s (φ s) (sym (b.len s)) (λ x w l. sym (b.same s x w l))

  changed_aut : (σ : Aut) → AlikeAut σ.states.words (φ σ.states.words) σ (in_aut φ σ)
  changed_aut σ = record { nodes = refl; states = record { words = changed_words σ.states.words; count = refl }; members = refl }

  changed_store : (σ : Store) → AlikeStore σ.aut.states.words (φ σ.aut.states.words) σ (in_store φ σ)
  changed_store σ = record { aut = changed_aut σ.aut; transitions = refl }

  -- and back
  words_changed : {f s t : List ℕ} → AlikeWords f (φ f) s t → t ≡ φ s
  words_changed {f} {s} {t} r = same_words_lem t (φ s) (sym r.len ∙ sym (b.len s)) (λ x w m. by_test (ltb w 7)
      (λ q. sym (r.same x w (ltb-true w 7 q)) ∙ sym (b.same s x w (ltb-true w 7 q)))
      (λ q. r.right.words x w (ltb-false w 7 q) m ∙ sym ((b.framed f s r.left).words x w (ltb-false w 7 q) m)))

  aut_changed : {f : List ℕ} {σ τ : Aut} → AlikeAut f (φ f) σ τ → τ ≡ in_aut φ σ
  aut_changed r = λ d. aut (sym r.nodes d) (table (words_changed r.states.words d) (sym r.states.count d)) (sym r.members d)

  store_changed : {f : List ℕ} {σ τ : Store} → AlikeStore f (φ f) σ τ → τ ≡ in_store φ σ
  store_changed r = λ d. store (aut_changed r.aut d) (sym r.transitions d)

  runs_aut : {A : Type 0} {f : List ℕ} {o p : Outcome Aut A} → AlikeRuns (AlikeAut f (φ f)) o p → p ≡ cleared (in_aut φ) o
  runs_aut stops = refl
  runs_aut (comes {a = a} r) = ap (λ (σ : Aut). given σ a) (aut_changed r)

  runs_store : {A : Type 0} {f : List ℕ} {o p : Outcome Store A} → AlikeRuns (AlikeStore f (φ f)) o p → p ≡ cleared (in_store φ) o
  runs_store stops = refl
  runs_store (comes {a = a} r) = ap (λ (σ : Store). given σ a) (store_changed r)

  -- ---- constructors, epsilon and delta

  pub make_beyond : (N : ℕ) (L : Limits) (l : Line ℕ) (σ : Aut) → make N L l (in_aut φ σ) ≡ cleared (in_aut φ) (make N L l σ)
  make_beyond N L l σ = runs_aut (by_twins (λ h k. make_free N L l) σ (in_aut φ σ) (changed_aut σ))

  pub epsilon_beyond : (N x : ℕ) (σ : Aut) → epsilon N x (in_aut φ σ) ≡ cleared (in_aut φ) (epsilon N x σ)
  epsilon_beyond N x σ = runs_aut (epsilon_alike N x σ (in_aut φ σ) (changed_aut σ))

  pub epsilon_store_beyond : (N x : ℕ) (σ : Store) → on_aut (epsilon N x) (in_store φ σ) ≡ cleared (in_store φ) (on_aut (epsilon N x) σ)
  epsilon_store_beyond N x σ = runs_store (on_aut_lem (epsilon_alike N x) σ (in_store φ σ) (changed_store σ))

  pub delta_beyond : (N : ℕ) (L : Limits) (x : ℕ) (σ : Store) → delta N L x (in_store φ σ) ≡ cleared (in_store φ) (delta N L x σ)
  delta_beyond N L x σ = runs_store (delta_alike N L x σ (in_store φ σ) (changed_store σ))

-- ---- words 7 to 11 are not written

came_aut : {A : Type 0} {f g : List ℕ} {τ : Aut} {a : A} {p : Outcome Aut A} → AlikeRuns (AlikeAut f g) (given τ a) p → Framed f τ.states.words
came_aut (comes r) = r.states.words.left

came_store : {A : Type 0} {f g : List ℕ} {τ : Store} {a : A} {p : Outcome Store A} → AlikeRuns (AlikeStore f g) (given τ a) p → Framed f τ.aut.states.words
came_store (comes r) = r.aut.states.words.left

same_aut : (σ : Aut) → AlikeAut σ.states.words σ.states.words σ σ
same_aut σ = record {
  nodes = refl;
  states = record { words = alike_words σ.states.words σ.states.words refl (λ x w l. refl); count = refl };
  members = refl;
}

pub make_framed : (N : ℕ) (L : Limits) (l : Line ℕ) (σ τ : Aut) (a : ℕ) → make N L l σ ≡ given τ a → Framed σ.states.words τ.states.words
make_framed N L l σ τ a e = came_aut (subst (λ (o : Outcome Aut ℕ). AlikeRuns (AlikeAut σ.states.words σ.states.words) o (make N L l σ)) e (by_twins (λ h k. make_free N L l) σ σ (same_aut σ)))

pub epsilon_framed : (N x : ℕ) (σ τ : Aut) (a : ℕ) → epsilon N x σ ≡ given τ a → Framed σ.states.words τ.states.words
epsilon_framed N x σ τ a e = came_aut (subst (λ (o : Outcome Aut ℕ). AlikeRuns (AlikeAut σ.states.words σ.states.words) o (epsilon N x σ)) e (epsilon_alike N x σ σ (same_aut σ)))

pub delta_framed : (N : ℕ) (L : Limits) (x : ℕ) (σ τ : Store) (es : List Edge) → delta N L x σ ≡ given τ es → Framed σ.aut.states.words τ.aut.states.words
delta_framed N L x σ τ es e =
    came_store (subst (λ (o : Outcome Store (List Edge)). AlikeRuns (AlikeStore σ.aut.states.words σ.aut.states.words) o (delta N L x σ)) e
    (delta_alike N L x σ σ (record { aut = same_aut σ.aut; transitions = refl })))

-- ---- on all tables of a query

module _ (φ : List ℕ → List ℕ) {A : Type 0} where
  pub on_base_lem : (c : Step Store A) (σ : Tables) → c (in_store φ σ.base) ≡ cleared (in_store φ) (c σ.base) → on_base c (in_tables φ σ) ≡ cleared (in_tables φ) (on_base c σ)
  on_base_lem c σ e = ap (placed put_base (in_tables φ σ)) e ∙ go (c σ.base)
    where
      go : (o : Outcome Store A) → placed put_base (in_tables φ σ) (cleared (in_store φ) o) ≡ cleared (in_tables φ) (placed put_base σ o)
      go (refused number) = refl
      go (given τ a) = refl

  -- steps on nodes alone do not look at the states
  pub on_sets_lem : (c : Step Table A) (σ : Tables) → on_sets c (in_tables φ σ) ≡ cleared (in_tables φ) (on_sets c σ)
  on_sets_lem c σ = go (c σ.sets)
    where
      go : (o : Outcome Table A) → placed put_sets (in_tables φ σ) o ≡ cleared (in_tables φ) (placed put_sets σ o)
      go (refused number) = refl
      go (given τ a) = refl

  pub making_sets_lem : (c : Step Stores A) (σ : Tables) → making_sets c (in_tables φ σ) ≡ cleared (in_tables φ) (making_sets c σ)
  making_sets_lem c σ = go (c (diagrams σ))
    where
      go : (o : Outcome Stores A) → placed (λ s σ. put_sets s.sp σ) (in_tables φ σ) o ≡ cleared (in_tables φ) (placed (λ s σ. put_sets s.sp σ) σ o)
      go (refused number) = refl
      go (given τ a) = refl

  pub making_relations_lem : (c : Step Stores A) (σ : Tables) → making_relations c (in_tables φ σ) ≡ cleared (in_tables φ) (making_relations c σ)
  making_relations_lem c σ = go (c (diagrams σ))
    where
      go : (o : Outcome Stores A) → placed (λ s σ. put_relations s.spp σ) (in_tables φ σ) o ≡ cleared (in_tables φ) (placed (λ s σ. put_relations s.spp σ) σ o)
      go (refused number) = refl
      go (given τ a) = refl

-- ---- words 8 to 11 zero

pub epsilon_clear : (N x : ℕ) (σ : Aut) → epsilon N x (clear_aut σ) ≡ cleared clear_aut (epsilon N x σ)
epsilon_clear N x σ = epsilon_beyond clear_beyond N x σ

pub delta_clear : (N : ℕ) (L : Limits) (x : ℕ) (σ : Store) → delta N L x (clear_store σ) ≡ cleared clear_store (delta N L x σ)
delta_clear N L x σ = delta_beyond clear_beyond N L x σ

pub make_clear : (N : ℕ) (L : Limits) (l : Line ℕ) (σ : Aut) → make N L l (clear_aut σ) ≡ cleared clear_aut (make N L l σ)
make_clear N L l σ = make_beyond clear_beyond N L l σ

pub epsilon_clear_tables : (N x : ℕ) (σ : Tables) → on_base (on_aut (epsilon N x)) (clear_tables σ) ≡ cleared clear_tables (on_base (on_aut (epsilon N x)) σ)
epsilon_clear_tables N x σ = on_base_lem clear (on_aut (epsilon N x)) σ (epsilon_store_beyond clear_beyond N x σ.base)

pub delta_clear_tables : (N : ℕ) (L : Limits) (x : ℕ) (σ : Tables) → on_base (delta N L x) (clear_tables σ) ≡ cleared clear_tables (on_base (delta N L x) σ)
delta_clear_tables N L x σ = on_base_lem clear (delta N L x) σ (delta_clear N L x σ.base)

-- words 8 to 11 may be written; at rest nothing is cleared; live sets are kept before or after; a stored list and a live set are read as they are
pub clear_tables_writing : (x w v : ℕ) → 8 ≤ w → w < 12 → (σ : Tables) → clear_tables (in_tables (writing x w v) σ) ≡ clear_tables σ
clear_tables_writing x w v l m σ = ap (λ (s : List ℕ). in_tables (λ _. s) σ) (clear_set σ.base.aut.states.words x w v l m)

pub clear_tables_rest : (σ : Tables) → AtRest σ.base.aut.states.words → clear_tables σ ≡ σ
clear_tables_rest σ h = ap (λ (s : List ℕ). in_tables (λ _. s) σ) (clear_rest σ.base.aut.states.words h)

clear_keep_in : (xs : List ℕ) (live : ℕ → ℕ) (s : Table) → table (clear (keep_in xs live s).words) (keep_in xs live s).count ≡ keep_in xs live (table (clear s.words) s.count)
unfolding keep_in set_word
clear_keep_in [] live s = refl
clear_keep_in (x ∷ xs) live s =
    clear_keep_in xs live (set_word x 7 (live x + 1) s) ∙ ap (λ (l : List ℕ). keep_in xs live (table l s.count)) (clear_live s.words x (live x + 1))

pub clear_keep_lives : (xs : List ℕ) (live : ℕ → ℕ) (σ : Tables) → clear_tables (keep_lives xs live σ) ≡ keep_lives xs live (clear_tables σ)
clear_keep_lives xs live σ =
    ap (λ (t : Table). put_base (store (put_states t σ.base.aut) σ.base.transitions) σ) (clear_keep_in xs live σ.base.aut.states)

pub clear_list_at : (σ : Store) (x : ℕ) → list_at (clear_store σ) x ≡ list_at σ x
clear_list_at σ x = sym (list_at_same (changed_store clear_beyond σ) x)

pub clear_live_of : (st : List ℕ) (x : ℕ) → live_of (clear st) x ≡ live_of st x
unfolding live_of
clear_live_of st x = clear_kept st x 7 (omega arith)

-- ---- one word from 7 on written

pub epsilon_writing : (y w v : ℕ) → 7 ≤ w → w < 12 → (N x : ℕ) (σ : Aut) → epsilon N x (in_aut (writing y w v) σ) ≡ cleared (in_aut (writing y w v)) (epsilon N x σ)
epsilon_writing y w v l m N x σ = epsilon_beyond (writing_beyond y w v l m) N x σ

pub delta_writing : (y w v : ℕ) → 7 ≤ w → w < 12 → (N : ℕ) (L : Limits) (x : ℕ) (σ : Store) → delta N L x (in_store (writing y w v) σ) ≡ cleared (in_store (writing y w v)) (delta N L x σ)
delta_writing y w v l m N L x σ = delta_beyond (writing_beyond y w v l m) N L x σ

-- a kept live set (word 7) is not looked at
pub epsilon_live_free : (y v : ℕ) (N x : ℕ) (σ : Aut) → epsilon N x (in_aut (writing y 7 v) σ) ≡ cleared (in_aut (writing y 7 v)) (epsilon N x σ)
epsilon_live_free y v N x σ = epsilon_writing y 7 v (omega arith) (omega arith) N x σ

pub delta_live_free : (y v : ℕ) (N : ℕ) (L : Limits) (x : ℕ) (σ : Store) → delta N L x (in_store (writing y 7 v) σ) ≡ cleared (in_store (writing y 7 v)) (delta N L x σ)
delta_live_free y v N L x σ = delta_writing y 7 v (omega arith) (omega arith) N L x σ
