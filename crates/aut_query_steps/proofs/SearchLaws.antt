-- Demand 3 for the search on the tables: unless it is refused, `is_empty` reports exactly the answer and the count of 01's plain search, which is fed what epsilon and delta give from the
-- book's tables alone (aut_delta_steps' PlainSearch); each yes or no says "empty" exactly if no string belongs to the state. And the tables are in order again, with all that was worked out.
use mathlib.Core.Path.{◌≡◌, refl, sym, ◌∙◌, ap, subst}
use mathlib.Core.Bool.{not}
use mathlib.Core.List.{List, map}
use Prim.Native.Nat.{ℕ, ◌<◌}
use native.Mathlib.Omega.{arith}
use lib.Dec.{T}
use Rattle.common.specs.Packets.{Set, Relation, inhabited, image}
use Rattle.common.proofs.PacketLaws.{inhabited_to}
use Rattle.common.specs.Outcome.{Outcome, refused, given, return, after, Gives, refusal, gives}
use Rattle.common.specs.Runs.{Table, placed}
use Rattle.netkat.specs.Lists.{State, Transition}
use Rattle.netkat_steps.specs.ListSteps.{Edge, Are}
use Rattle.netkat.specs.Search.{Verdict}
use Rattle.netkat_steps.specs.Handles.{Reading, Alike, none, also, IsLink, Grows, Makes, Implements}
use Rattle.netkat_steps.specs.Demand.{Demand, Demanded}
use Rattle.netkat_steps.proofs.Demand.{demand}
use Rattle.sp_steps.specs.Model as Sp
use Rattle.sp_steps.specs.Wf as SpLaws
use Rattle.sp_steps.proofs.Laws as SpLawsProofs
use Rattle.sp_steps.proofs.Sets as SpSets
use Rattle.sp_steps.proofs.Refused as SpRefused
use Rattle.spp_steps.specs.Wf.{Denotes}
use Rattle.spp_steps.proofs.Laws.{den_ext, den_mem, by_test}
use Rattle.spp_steps.proofs.Relations.{uninhabited}
use Rattle.spp_steps.proofs.Images.{push_exact}
use Rattle.spp_steps.proofs.HasImage.{has_image_is}
use Rattle.aut_steps.specs.Relations as Rel
use Rattle.aut_steps.specs.Tables.{Limits}
use Rattle.aut_steps.specs.Wf.{states}
use Rattle.aut_steps.proofs.Wf.{state_grown}
use Rattle.aut_steps.specs.Meaning.{Holds}
use Rattle.aut_delta_steps.specs.Epsilon.{epsilon}
use Rattle.aut_delta_steps.specs.Delta.{Store, on_aut, delta}
use Rattle.aut_delta_steps.specs.Fits.{tables as readings}
use Rattle.aut_delta_steps.proofs.Agree.{Agree, come}
use Rattle.aut_delta_steps.specs.Wf.{Means}
use Rattle.aut_delta_steps.proofs.DeltaRuns.{Halted, Stepped, Deltaed, epsilon_step}
use Rattle.aut_delta_steps.proofs.DeltaLaws.{delta_goes, delta_list}
use Rattle.aut_delta_steps.specs.PlainSearch.{decoded, answers}
use Rattle.aut_delta_steps.proofs.PlainSearch.{meaning, lawful}
use Rattle.aut_query_steps.specs.Tables.{Tables, put_base, diagrams, on_base, WfTables}
use Rattle.aut_query_steps.proofs.Tables.{both_wf, Gone}
use Rattle.aut_query_steps.specs.Search.{link, machine, is_empty}
use Rattle.aut_query_steps.proofs.Steps.{gone_refl, gone_trans, gone_base, SetSteps, gives_map, ends_gives, sets_step, images_step}
pub use Rattle.aut_query_steps.proofs.Steps.{ordered_base}

-- whether a set has no packet, by its handle
pub zero_is : {N h : ℕ} {t : Table} {x : Set N} → SpLaws.Wf N t → SpLaws.Denotes t N h x → Sp.is_zero N h ≡ not (inhabited x)
zero_is {N} {h} {x = x} w d = by_test (inhabited x)
    (λ e. let (p, u) = inhabited_to x (subst T (sym e) tt) in by_test (Sp.is_zero N h) (λ z. absurd (subst T (SpSets.zero_none N N (omega arith) w d z p) u)) (λ z. z) ∙ ap not (sym e))
    (λ e. SpSets.none_zero N N (omega arith) w d (uninhabited x e) ∙ ap not (sym e))

-- ---- the search works for the automaton

module _ (N : ℕ) (L : Limits) where
  -- The tables are in order and have come from σ₀; those that epsilon and delta work on are τ.
  pub record Agreed (σ₀ σ : Tables) (τ : Store) : Type 0 where
    pub same : σ.base ≡ τ
    pub ordered : WfTables N L σ
    pub gone : Gone σ₀ σ

  abbrev pub reading : (lent : ℕ) → Tables → Reading (machine N L lent) (answers N L)
  reading lent σ₀ = record {
    Agrees = Agreed σ₀;
    Known = λ σ s. s < states σ.base.aut;
    Is = λ σ h x. SpLaws.Denotes σ.sets N h x;
    IsLabel = λ σ l r. Denotes σ.base.aut.nodes N l r;
  }

module _ (N : ℕ) (L : Limits) (lent : ℕ) (σ₀ : Tables) where
  abbrev 𝓡 : Reading (machine N L lent) (answers N L)
  𝓡 = reading N L lent σ₀

  grows : {σ σ' : Tables} → Gone σ σ' → Grows 𝓡 σ σ'
  grows g = record {
    known = λ s k. state_grown g.went.grown k;
    is = λ h x d. SpLawsProofs.den_ext g.sets d;
    is_label = λ l r d. den_ext g.went.grown.nodes d;
  }

  module _ {σ : Tables} {τ : Store} (a : Agreed N L σ₀ σ τ) where
    makes : {σ' : Tables} {τ' : Store} {R : Type 0} → Gone σ σ' → WfTables N L σ' → σ'.base ≡ τ' → R → Makes 𝓡 σ σ' τ' R
    makes g o e r = record { grows = grows g; agrees = record { same = e; ordered = o; gone = gone_trans a.gone g }; right = r }

    -- a step that makes packet nodes only
    set_works : {x : Set N} {o : Outcome Tables ℕ} → Gives (SetSteps N L (λ t h. SpLaws.Denotes t N h x) σ) o → Gives (λ σ' h. Makes 𝓡 σ σ' τ (SpLaws.Denotes σ'.sets N h x)) o
    set_works r = gives_map (λ σ' v s. makes s.gone s.ordered (s.holds.0 ∙ a.same) s.holds.1) r

    -- nothing is made
    still : {R : Type 0} → R → Makes 𝓡 σ σ τ R
    still r = makes (gone_refl σ) a.ordered a.same r

    epsilon_work : {s : State} → s < states σ.base.aut
        → Gives (λ σ' l. (τ' : Store) × (e : Relation N) × ((answers N L).epsilon s τ ≡ given τ' e) × Makes 𝓡 σ σ' τ' (Denotes σ'.base.aut.nodes N l e)) (on_base (on_aut (epsilon N s)) σ)
    epsilon_work {s} k = go (on_aut (epsilon N s) σ.base) (on_aut (epsilon N s) σ.base) refl (epsilon_step a.ordered.worked k)
      where
        go : (o p : Outcome Store ℕ) → on_aut (epsilon N s) σ.base ≡ o → Agree (Halted N L σ.base) (Stepped N L (λ τ e. Means N τ.nodes e (Holds N σ.base.aut s)) σ.base) o p
            → Gives (λ σ' l. (τ' : Store) × (e : Relation N) × ((answers N L).epsilon s τ ≡ given τ' e) × Makes 𝓡 σ σ' τ' (Denotes σ'.base.aut.nodes N l e)) (placed put_base σ o)
        go (refused number) p q x = refusal
        go (given b l) p q (come f) = gives (
          b,
          Rel.pairs N b.aut.nodes l,
          ap (λ (t : Store). (answers N L).epsilon s t) (sym a.same) ∙ ap (λ (o : Outcome Store ℕ). after o (λ e τ. given τ (Rel.pairs N τ.aut.nodes e))) q,
          makes (gone_base f.went) (ordered_base a.ordered f.went f.worked) refl (den_mem f.holds.den.at),
        )

    links : {σ' : Tables} {es : List Edge} {list : List (Transition State N)} → Are (readings N L) σ'.base.aut es list
        → Alike (IsLink 𝓡 σ') (map link es) (map (decoded N σ'.base.aut) es)
    links Are.none = none
    links (Are.also k d as') = also (record { target = refl; known = k; label = den_mem d.at }) (links as')

    delta_work : {s : State} → s < states σ.base.aut
        → Gives (λ σ' ls. (τ' : Store) × (list : List (Transition State N)) × ((answers N L).delta s τ ≡ given τ' list) × Makes 𝓡 σ σ' τ' (Alike (IsLink 𝓡 σ') ls list)) ((machine N L lent).delta s σ)
    delta_work {s} k = go (delta N L s σ.base) (delta N L s σ.base) refl (delta_goes a.ordered.worked k)
      where
        go : (o p : Outcome Store (List Edge)) → delta N L s σ.base ≡ o → Agree (Halted N L σ.base) (Deltaed N L s σ.base) o p
            → Gives (λ σ' ls. (τ' : Store) × (list : List (Transition State N)) × ((answers N L).delta s τ ≡ given τ' list) × Makes 𝓡 σ σ' τ' (Alike (IsLink 𝓡 σ') ls list))
            (after (placed put_base σ o) (λ es. return (map link es)))
        go (refused number) p q x = refusal
        go (given b es) p q (come d) = gives (
          b,
          map (decoded N b.aut) es,
          ap (λ (t : Store). (answers N L).delta s t) (sym a.same) ∙ ap (λ (o : Outcome Store (List Edge)). after o (λ es τ. given τ (map (decoded N τ.aut) es))) q,
          makes (gone_base d.listed.went) (ordered_base a.ordered d.listed.went d.listed.worked) refl
              (links {σ' = put_base b σ} (delta_list a.ordered.worked k d).are),
        )

  pub works : Implements (machine N L lent) (answers N L) 𝓡
  works = record {
    one_works = λ a. SpLawsProofs.den_one a.ordered.sets N (omega arith);
    zero_works = λ a. SpLawsProofs.den_zero a.ordered.sets N (omega arith);
    difference_works = λ a X Y. set_works a (ends_gives {lent = lent} (sets_step a.ordered (SpSets.difference_runs N N (omega arith) _ _ _ _ _ a.ordered.sets X Y) (SpRefused.difference_stops N N (omega arith) _ _ _ _ _ a.ordered.sets X Y)));
    union_works = λ a X Y. set_works a (ends_gives {lent = lent} (sets_step a.ordered (SpSets.union_runs N N (omega arith) _ _ _ _ _ a.ordered.sets X Y) (SpRefused.union_stops N N (omega arith) _ _ _ _ _ a.ordered.sets X Y)));
    is_zero_works = λ a X. gives (still a (zero_is a.ordered.sets X));
    push_works = λ {x} {r} a X Y. set_works a (ends_gives {lent = lent} (images_step a.ordered (λ t h. SpLaws.Denotes t N h (image x r)) (push_exact N N (omega arith) _ _ _ x r (both_wf a.ordered) X Y)));
    has_image_works = λ {σ} a X Y. gives (still a (has_image_is N N (omega arith) (diagrams σ) _ _ _ _ (both_wf a.ordered) X Y));
    epsilon_works = λ a k. epsilon_work a k;
    delta_works = λ a k. delta_work a k;
  }

-- ---- demand 3, for one search

module _ (N : ℕ) (L : Limits) (lent : ℕ) where
  pub search_demand : (σ₀ : Tables) → Demand (reading N L lent σ₀) (meaning N L)
  search_demand σ₀ = demand (machine N L lent) (answers N L) (reading N L lent σ₀) (meaning N L) (works N L lent σ₀) lawful

-- What a search for s from σ has come to: the plain search's answer and count with all that is promised of it; tables in order, and what was worked out there still.
pub record Searched (N : ℕ) (L : Limits) (lent budget s : ℕ) (σ τ : Tables) (r : Verdict × ℕ) : Type 0 where
  pub demanded : Demanded (reading N L lent σ) (meaning N L) budget s σ.base τ r
  pub ordered : WfTables N L τ
  pub gone : Gone σ τ

pub search_goes : {N : ℕ} {L : Limits} (lent budget s : ℕ) {σ : Tables} → WfTables N L σ → s < states σ.base.aut → Gives (Searched N L lent budget s σ) (is_empty N L lent budget s σ)
unfolding is_empty
search_goes {N} {L} lent budget s {σ} o k =
    gives_map (λ τ r d. record { demanded = d; ordered = d.reports.agrees.ordered; gone = d.reports.agrees.gone })
    (search_demand N L lent σ budget s σ σ.base (record { same = refl; ordered = o; gone = gone_refl σ }) k o.worked k)
