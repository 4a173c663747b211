-- What holds of the definitions of specs/Pending.
use Rattle.std.specs.Prelude.{if◌then◌else◌}
use mathlib.Core.Path.{◌≡◌, refl, sym, subst}
use mathlib.Core.Logic.{⊎_elim}
use mathlib.Core.Bool.{Bool, true, false}
use mathlib.Core.List.Memᴰ
use mathlib.Core.List.{List, [], ◌∷◌, map, Memᴰ}
use Prim.Native.Nat.{ℕ, zero, suc, ◌<◌}
use native.Mathlib.Omega.{arith}
use lib.Dec.{eqb, ltb}
use lib.ListN.{length, length-map}
use borrow.Author.Tests.{ltb-false}
use Rattle.common.specs.Packets.{image}
use Rattle.common.specs.Outcome.{Outcome, return, Gives, gives}
use Rattle.netkat.specs.Lists.{State, Transition}
use Rattle.netkat_steps.specs.ListSteps.{Edge, Are}
use Rattle.netkat.specs.Search.{Verdict}
use Rattle.netkat_steps.specs.Handles as Handles
use Rattle.netkat_steps.specs.Handles.{Link, Entry, goes, found}
use Rattle.sp_steps.specs.Model as Sp
use Rattle.sp_steps.specs.Wf as SpLaws
use Rattle.sp_steps.proofs.Laws as SpLawsProofs
use Rattle.sp_steps.proofs.Sets as SpSets
use Rattle.sp_steps.proofs.Refused as SpRefused
use Rattle.spp_steps.specs.Wf.{ValidAt}
use Rattle.spp_steps.proofs.Laws.{at_ext, den_mem}
use Rattle.spp_steps.proofs.Images.{push_exact}
use Rattle.spp_steps.specs.ImageModel as Images
use Rattle.aut_steps.specs.Relations as Rel
use Rattle.aut_steps.specs.Tables.{Limits}
use Rattle.aut_steps.specs.Wf.{states}
use Rattle.aut_steps.proofs.Wf.{state_grown}
use Rattle.aut_delta_steps.specs.Fits.{tables as readings}
use Rattle.aut_query_steps.specs.Tables.{Tables, diagrams, WfTables}
use Rattle.aut_query_steps.proofs.Tables.{both_wf, Gone}
use Rattle.aut_query_steps.specs.Search.{capacity, link, machine, is_empty}
use Rattle.aut_query_steps.proofs.Steps.{gone_refl, gone_trans, no_entry, stopped_here, Ends, halts, comes, Steps, ends_map, ends_bind, ends_call, ends_branch, sets_step, images_step, epsilon_ends, delta_ends}
use Rattle.aut_query_steps.proofs.SearchLaws.{Searched, search_goes}
use Rattle.aut_query_steps.proofs.SettleLaws.{map_mem}
use Rattle.aut_query_steps.specs.Pending.{Pending, Entries}

module _ (N : ℕ) where
  pub record Linking (σ : Tables) (l : Link ℕ) : Type 0 where
    pub known : l.target < states σ.base.aut
    pub at : ValidAt σ.base.aut.nodes N l.label

  abbrev pub Links : Tables → List (Link ℕ) → Type 0
  Links σ ls = (l : Link ℕ) → Memᴰ l ls → Linking σ l

module _ {N : ℕ} {σ τ : Tables} (g : Gone σ τ) where
  entries_gone : {es : List (Entry ℕ)} → Entries N σ es → Entries N τ es
  entries_gone f e m = record { known = state_grown g.went.grown (f e m).known; at = SpLawsProofs.at_ext g.sets N e.packets (f e m).at }

  links_gone : {ls : List (Link ℕ)} → Links N σ ls → Links N τ ls
  links_gone f l m = record { known = state_grown g.went.grown (f l m).known; at = at_ext g.went.grown.nodes N l.label (f l m).at }

module _ (N : ℕ) (L : Limits) (lent : ℕ) where
  -- ---- the walk

  put_ends : {σ : Tables} (s h : ℕ) {pending : List (Entry ℕ)} → WfTables N L σ → s < states σ.base.aut → SpLaws.ValidAt σ.sets N h → Entries N σ pending
      → Ends N L lent (λ τ es. (τ ≡ σ) × Entries N σ es) σ (Handles.put (machine N L lent) s h pending σ)
  put_ends {σ} s h {pending} o k a f =
      ends_branch (ltb (length pending) (capacity lent)) _ _ σ
      (λ _. comes (refl, λ e m. ⊎_elim (λ q. subst (Pending N σ) (sym q) (record { known = k; at = a })) (λ n. f e n) (Memᴰ.cases_cons m)))
      (λ full. halts (stopped_here o (no_entry (map (λ e. e.state) pending) known (omega (arith, ltb-false (length pending) (capacity lent) full, length-map pending (λ (e : Entry ℕ). e.state))))))
    where
      known : (t : ℕ) → Memᴰ t (map (λ (e : Entry ℕ). e.state) pending) → t < states σ.base.aut
      known t m = go (map_mem (λ (e : Entry ℕ). e.state) pending m)
        where
          go : (e : Entry ℕ) × Memᴰ e pending × (t ≡ e.state) → t < states σ.base.aut
          go (e, n, q) = subst (λ (t : ℕ). t < states σ.base.aut) (sym q) (f e n).known

  walk_ends : (links : List (Link ℕ)) {σ : Tables} (h : ℕ) (pending : List (Entry ℕ)) → WfTables N L σ → SpLaws.ValidAt σ.sets N h → Links N σ links → Entries N σ pending
      → Ends N L lent (Steps N L (Entries N) σ) σ (Handles.walk (machine N L lent) h links pending σ)
  unfolding Handles.walk
  walk_ends [] {σ} h pending o a ls es = comes (record { gone = gone_refl σ; ordered = o; holds = es })
  walk_ends (l ∷ links) {σ} h pending o a ls es =
      let k = ls l (Memᴰ.head refl) in
      ends_call (images_step o (λ t v. SpLaws.Denotes t N v (image (Sp.mem σ.sets.words N h) (Rel.pairs N σ.base.aut.nodes l.label)))
      (push_exact N N (omega arith) (diagrams σ) h l.label (Sp.mem σ.sets.words N h) (Rel.pairs N σ.base.aut.nodes l.label) (both_wf o) (SpLawsProofs.den_mem a) (den_mem k.at))) (λ σ₁ next P.
      let es₁ : Entries N σ₁ pending = entries_gone P.gone es in
      ends_bind (placing σ₁ next (Sp.is_zero N next) P.ordered (state_grown P.gone.went.grown k.known) P.holds.1.at es₁) (λ σ₂ pending₂ Q. (
        subst (λ (υ : Tables). Gone σ₁ υ) (sym Q.0) (gone_refl σ₁),
        subst (λ (υ : Tables). Ends N L lent (Steps N L (Entries N) σ) υ (Handles.walk (machine N L lent) h links pending₂ υ)) (sym Q.0)
            (ends_map (λ τ fs X. record { gone = gone_trans P.gone X.gone; ordered = X.ordered; holds = X.holds })
            (walk_ends links h pending₂ P.ordered (SpLawsProofs.at_ext P.gone.sets N h a) (links_gone P.gone (λ l m. ls l (Memᴰ.tail m))) Q.1)),
      )))
    where
      placing : (τ : Tables) (next : ℕ) (b : Bool) → WfTables N L τ → l.target < states τ.base.aut → SpLaws.ValidAt τ.sets N next → Entries N τ pending
          → Ends N L lent (λ υ es. (υ ≡ τ) × Entries N τ es) τ ((if b then return pending else Handles.put (machine N L lent) l.target next pending) τ)
      placing τ next true o k a es = comes (refl, es)
      placing τ next false o k a es = put_ends l.target next o k a es

  -- ---- a turn

  -- the pending list and the sets seen are of these tables
  pub record Running (σ : Tables) (entries : List (Entry ℕ)) (seen : State → ℕ) : Type 0 where
    pub ordered : WfTables N L σ
    pub pending : Entries N σ entries
    pub sets : (t : State) → SpLaws.ValidAt σ.sets N (seen t)

  running_gone : {σ τ : Tables} {entries : List (Entry ℕ)} {seen : State → ℕ} → Gone σ τ → WfTables N L τ → Running σ entries seen → Running τ entries seen
  running_gone {seen = seen} g o r = record { ordered = o; pending = entries_gone g r.pending; sets = λ t. SpLawsProofs.at_ext g.sets N (seen t) (r.sets t) }

  abbrev Turned : Tables → Handles.Turn (machine N L lent) → Type 0
  Turned σ (goes entries seen) = Running σ entries seen
  Turned σ found = WfTables N L σ

  links_of : {σ : Tables} {es : List Edge} {list : List (Transition State N)} → Are (readings N L) σ.base.aut es list → Links N σ (map link es)
  links_of Are.none l m = absurd (Memᴰ.not-nil m)
  links_of {σ} (Are.also k d as') l m = ⊎_elim (λ q. subst (Linking N σ) (sym q) (record { known = k; at = d.at })) (λ n. links_of as' l n) (Memᴰ.cases_cons m)

  module _ {σ : Tables} {s : ℕ} (fresh : ℕ) {rest : List (Entry ℕ)} {seen : State → ℕ} (r : Running σ rest seen) (k : s < states σ.base.aut) (a : SpLaws.ValidAt σ.sets N fresh) where
    links_ends : {τ : Tables} → Gone σ τ → WfTables N L τ → Ends N L lent (Steps N L (Links N) τ) τ ((machine N L lent).delta s τ)
    links_ends g o = ends_bind (delta_ends o (state_grown g.went.grown k)) (λ υ es D. (D.gone, comes (record { gone = D.gone; ordered = D.ordered; holds = links_of D.holds.1.are })))

    expand_ends : Ends N L lent (λ τ t. Gone σ τ × Turned τ t) σ (Handles.expand (machine N L lent) s fresh rest seen σ)
    unfolding Handles.expand
    expand_ends =
        ends_call (sets_step r.ordered (SpSets.union_runs N N (omega arith) σ.sets (seen s) fresh _ _ r.ordered.sets (SpLawsProofs.den_mem (r.sets s)) (SpLawsProofs.den_mem a))
        (SpRefused.union_stops N N (omega arith) σ.sets (seen s) fresh _ _ r.ordered.sets (SpLawsProofs.den_mem (r.sets s)) (SpLawsProofs.den_mem a))) (λ σ₁ both U.
        ends_call (epsilon_ends U.ordered (state_grown U.gone.went.grown k)) (λ σ₂ e A.
        let g₂ = gone_trans U.gone A.gone in
        ends_branch (Images.has_image N N fresh e (diagrams σ₂)) _ _ σ₂
        (λ _. comes {a = found} (g₂, A.ordered))
        (λ _.
        ends_call (links_ends g₂ A.ordered) (λ σ₃ links D.
        let g₃ = gone_trans g₂ D.gone in
        ends_call (walk_ends links fresh rest D.ordered (SpLawsProofs.at_ext g₃.sets N fresh a) D.holds (entries_gone g₃ r.pending)) (λ σ₄ pending W.
        let since : Gone σ₁ σ₄ = gone_trans A.gone (gone_trans D.gone W.gone) in
        let g₄ = gone_trans U.gone since in
        comes {a = goes pending (λ t. if eqb s t then both else seen t)} (
          g₄,
          record {
            ordered = W.ordered;
            pending = W.holds;
            sets = λ t. seen_at_lem t both σ₄ (SpLawsProofs.at_ext since.sets N both U.holds.1.at) (SpLawsProofs.at_ext g₄.sets N (seen t) (r.sets t));
          },
        ))))))
      where
        seen_at_lem : (t both : ℕ) (τ : Tables) → SpLaws.ValidAt τ.sets N both → SpLaws.ValidAt τ.sets N (seen t) → SpLaws.ValidAt τ.sets N (if eqb s t then both else seen t)
        seen_at_lem t both τ i j = go (eqb s t)
          where
            go : (b : Bool) → SpLaws.ValidAt τ.sets N (if b then both else seen t)
            go true = i
            go false = j

  turn_ends : {σ : Tables} {entry : Entry ℕ} {rest : List (Entry ℕ)} {seen : State → ℕ} → Pending N σ entry → Running σ rest seen
      → Ends N L lent (λ τ t. Gone σ τ × Turned τ t) σ (Handles.turn (machine N L lent) entry rest seen σ)
  unfolding Handles.turn
  turn_ends {σ} {entry} {rest} {seen} p r =
      let s : ℕ = entry.state in
      ends_call (sets_step r.ordered (SpSets.difference_runs N N (omega arith) σ.sets entry.packets (seen s) _ _ r.ordered.sets (SpLawsProofs.den_mem p.at) (SpLawsProofs.den_mem (r.sets s)))
      (SpRefused.difference_stops N N (omega arith) σ.sets entry.packets (seen s) _ _ r.ordered.sets (SpLawsProofs.den_mem p.at) (SpLawsProofs.den_mem (r.sets s)))) (λ σ₁ fresh D.
      let r₁ = running_gone D.gone D.ordered r in
      ends_branch (Sp.is_zero N fresh) _ _ σ₁
      (λ _. comes {a = goes rest seen} (D.gone, r₁))
      (λ _. ends_map (λ τ t X. (gone_trans D.gone X.0, X.1)) (expand_ends fresh r₁ (state_grown D.gone.went.grown p.known) D.holds.1.at)))

  -- ---- a run

  run_ends : (left : ℕ) {σ : Tables} (entries : List (Entry ℕ)) (seen : State → ℕ) (count : ℕ) → Running σ entries seen
      → Ends N L lent (λ τ v. WfTables N L τ) σ (Handles.run (machine N L lent) left entries seen count σ)
  unfolding Handles.run
  run_ends zero [] seen count r = comes r.ordered
  run_ends zero (entry ∷ rest) seen count r = comes r.ordered
  run_ends (suc left) [] seen count r = comes r.ordered
  run_ends (suc left) {σ} (entry ∷ rest) seen count r =
      ends_bind (turn_ends (r.pending entry (Memᴰ.head refl)) (record { ordered = r.ordered; pending = λ e m. r.pending e (Memᴰ.tail m); sets = r.sets })) (λ τ t X.
      (X.0, onward τ t X.1 (λ entries₁ seen₁ r₁. run_ends left entries₁ seen₁ (suc count) r₁)))
    where
      onward : (τ : Tables) (t : Handles.Turn (machine N L lent)) → Turned τ t
          → ((entries₁ : List (Entry ℕ)) (seen₁ : State → ℕ) → Running τ entries₁ seen₁ → Ends N L lent (λ υ v. WfTables N L υ) τ (Handles.run (machine N L lent) left entries₁ seen₁ (suc count) τ))
          → Ends N L lent (λ υ v. WfTables N L υ) τ (Handles.onward (machine N L lent) (λ pending seen. Handles.run (machine N L lent) left pending seen (suc count)) (suc count) t τ)
      onward τ (goes entries₁ seen₁) r₁ rec = rec entries₁ seen₁ r₁
      onward τ found o rec = comes o

  stops_ends : (budget s : ℕ) {σ : Tables} → WfTables N L σ → s < states σ.base.aut → Ends N L lent (λ τ v. WfTables N L τ) σ (is_empty N L lent budget s σ)
  unfolding is_empty Handles.search
  stops_ends budget s {σ} o k =
      ends_bind (put_ends s (Sp.one_at N) o k (SpLawsProofs.den_one o.sets N (omega arith)).at (λ e m. absurd (Memᴰ.not-nil m))) (λ τ pending Q. (
        subst (λ (υ : Tables). Gone σ υ) (sym Q.0) (gone_refl σ),
        subst (λ (υ : Tables). Ends N L lent (λ τ v. WfTables N L τ) υ (Handles.run (machine N L lent) budget pending (λ t. Sp.zero_at N) 0 υ)) (sym Q.0)
            (run_ends budget pending (λ t. Sp.zero_at N) 0 (record { ordered = o; pending = Q.1; sets = λ t. SpLawsProofs.zero_at_lem o.sets N (omega arith) })),
      ))

-- unless it is refused, with its reason, the search comes to what the plain search comes to, and the tables are in order
pub search_ends : {N : ℕ} {L : Limits} (lent budget s : ℕ) {σ : Tables} → WfTables N L σ → s < states σ.base.aut → Ends N L lent (Searched N L lent budget s σ) σ (is_empty N L lent budget s σ)
search_ends {N} {L} lent budget s {σ} o k = go (stops_ends N L lent budget s o k) (search_goes lent budget s o k)
  where
    go : {r : Outcome Tables (Verdict × ℕ)} → Ends N L lent (λ τ v. WfTables N L τ) σ r → Gives (Searched N L lent budget s σ) r → Ends N L lent (Searched N L lent budget s σ) σ r
    go (halts h) g = halts h
    go (comes q) (gives g) = comes g
