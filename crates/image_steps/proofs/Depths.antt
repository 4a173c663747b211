-- 02 (ii), "cannot be made of those before it": the depth that the reader finds by first children is the depth of the handle, in well-formed tables.
use Rattle.std.specs.Prelude.{if◌then◌else◌}
use mathlib.Core.Path.{◌≡◌, refl, sym, ◌∙◌, ap, subst}
use mathlib.Core.Bool.{Bool, false}
use Prim.Native.Nat.{ℕ, zero, suc, ◌+◌, ◌-◌, ◌/◌, ◌%◌, ◌≤◌, ◌<◌}
use native.Mathlib.Omega.{arith}
use lib.Dec.{ltb}
use borrow.Author.Tests.{ltb-true, ltb-false, lt-ltb, le-ltb}
use Rattle.common.specs.Runs.{Table}
use Rattle.sp_steps.proofs.Word.{flip_flip}
use Rattle.sp_steps.specs.Model as Sp
use Rattle.sp_steps.specs.Wf as SpWf
use Rattle.sp_steps.proofs.Laws as SpLaws
use Rattle.spp_steps.specs.Model as Spp
use Rattle.spp_steps.specs.Wf.{Wf, ValidAt}
use Rattle.spp_steps.proofs.Laws.{by_test}
use Rattle.image_steps.specs.Records.{depth_of, depth_of_r}

-- ---- relations

-- a handle of depth d, looked at as far as n
pub valid_depth : (t : Table) (n d h : ℕ) → d ≤ n → ValidAt t d h → depth_of_r t.words n h ≡ d
unfolding depth_of_r Spp.kids
valid_depth t zero zero h l a = refl
valid_depth t zero (suc d) h l a = absurd (omega arith)
valid_depth t (suc n) zero h l a = ap (λ (b : Bool). if b then 0 else suc (depth_of_r t.words n (Spp.kid t.words (h - 2) false false))) (lt-ltb h 2 a)
valid_depth t (suc n) (suc d) h l a =
    ap (λ (b : Bool). if b then 0 else suc (depth_of_r t.words n (Spp.kid t.words (h - 2) false false))) (le-ltb h 2 a.0)
    ∙ ap suc (valid_depth t n d _ (omega arith) (a.2 false false))

-- every handle of nodes in use has a depth
pub some_depth : {N : ℕ} {t : Table} → Wf N t → (h : ℕ) → h < t.count + 2 → (d : ℕ) × (d ≤ N) × ValidAt t d h
unfolding Spp.kids
some_depth {N} {t} w h l =
    by_test (ltb h 2)
    (λ q. (0, omega arith, ltb-true h 2 q))
    (λ q. let m : 2 ≤ h = ltb-false h 2 q in
    let v = w.level (h - 2) (omega arith) in
    (suc v.depth, v.low, (m, l, v.children)))

pub handle_valid : {N : ℕ} {t : Table} → Wf N t → (d h : ℕ) → h < t.count + 2 → depth_of_r t.words N h ≡ d → ValidAt t d h
handle_valid {N} {t} w d h l e =
    let (c, m, a) = some_depth w h l in
    subst (λ (i : ℕ). ValidAt t i h) (sym (valid_depth t N c h m a) ∙ e) a

-- ---- packet sets

-- the stored child of a handle has the depth of the child
kid_valid : (t : Table) (d h : ℕ) (b : Bool) → SpWf.ValidAt t d (Sp.child t.words b h) → SpWf.ValidAt t d (Sp.kid t.words b (h / 2 - 1))
unfolding Sp.child
kid_valid t d h b a = subst (SpWf.ValidAt t d) (flip_flip (h % 2) _) (SpLaws.at_flip_by t d _ (h % 2) (omega arith) a)

pub valid_depth_set : (t : Table) (n d h : ℕ) → d ≤ n → SpWf.ValidAt t d h → depth_of t.words n h ≡ d
unfolding depth_of
valid_depth_set t zero zero h l a = refl
valid_depth_set t zero (suc d) h l a = absurd (omega arith)
valid_depth_set t (suc n) zero h l a = ap (λ (b : Bool). if b then 0 else suc (depth_of t.words n (Sp.kid t.words false (h / 2 - 1)))) (lt-ltb h 2 a)
valid_depth_set t (suc n) (suc d) h l a =
    ap (λ (b : Bool). if b then 0 else suc (depth_of t.words n (Sp.kid t.words false (h / 2 - 1)))) (le-ltb h 2 a.0)
    ∙ ap suc (valid_depth_set t n d _ (omega arith) (kid_valid t d h false (a.2 false)))

pub some_depth_set : {N : ℕ} {t : Table} → SpWf.Wf N t → (h : ℕ) → h / 2 ≤ t.count → (d : ℕ) × (d ≤ N) × SpWf.ValidAt t d h
unfolding Sp.child
some_depth_set {N} {t} w h l =
    by_test (ltb h 2)
    (λ q. (0, omega arith, ltb-true h 2 q))
    (λ q. let m : 2 ≤ h = ltb-false h 2 q in
    let v = w.level (h / 2 - 1) (omega arith) in
    (suc v.depth, v.low, (m, l, λ b. SpLaws.at_flip_by t v.depth _ (h % 2) (omega arith) (v.children b))))

pub set_valid : {N : ℕ} {t : Table} → SpWf.Wf N t → (d h : ℕ) → h / 2 ≤ t.count → depth_of t.words N h ≡ d → SpWf.ValidAt t d h
set_valid {N} {t} w d h l e =
    let (c, m, a) = some_depth_set w h l in
    subst (λ (i : ℕ). SpWf.ValidAt t i h) (sym (valid_depth_set t N c h m a) ∙ e) a
