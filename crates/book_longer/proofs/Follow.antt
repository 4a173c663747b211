-- How to follow a step on two stores: past a `>>=`, into a test, on a part of the store, past a look at the room. Assumes nothing.
use Rattle.std.specs.Prelude.{if◌then◌else◌}
use mathlib.Core.Path.{◌≡◌, refl, subst}
use mathlib.Core.Bool.{Bool, true, false}
use Prim.Native.Nat.{ℕ}
use Rattle.common.specs.Outcome.{Outcome, refused, given, Step, return, after, ◌>>=◌, Gives, gives}
use Rattle.common.specs.Runs.{placed}
use Rattle.spp_steps.proofs.Laws.{false_true}
use Rattle.book_longer.specs.Longer.{OfRoom, Follows, lacked, same_refusal, goes, Respects}

-- ---- outcomes

pub follows_bind : {S A B : Type 0} {R Q : S → S → Type 0} {o p : Outcome S A} {k j : A → Step S B} → Follows R o p → ((σ τ : S) (a : A) → R σ τ → Follows Q (k a σ) (j a τ)) → Follows Q (after o k) (after p j)
follows_bind (lacked n) f = lacked n
follows_bind same_refusal f = same_refusal
follows_bind (goes {σ} {τ} {a} r) f = f σ τ a r

-- .. with what is known of the first run
pub follows_given : {S A B : Type 0} {R Q : S → S → Type 0} {P : S → A → Type 0} {o p : Outcome S A} {k j : A → Step S B} → Gives P o → Follows R o p → ((σ τ : S) (a : A) → P σ a → R σ τ → Follows Q (k a σ) (j a τ))
    → Follows Q (after o k) (after p j)
follows_given g (lacked n) f = lacked n
follows_given g same_refusal f = same_refusal
follows_given (gives q) (goes {σ} {τ} {a} r) f = f σ τ a q r

pub follows_map : {S A : Type 0} {R Q : S → S → Type 0} {o p : Outcome S A} → ((σ τ : S) → R σ τ → Q σ τ) → Follows R o p → Follows Q o p
follows_map f (lacked n) = lacked n
follows_map f same_refusal = same_refusal
follows_map f (goes {σ} {τ} r) = goes (f σ τ r)

pub follows_placed : {S B A : Type 0} {R : S → S → Type 0} {Q : B → B → Type 0} (put : S → B → B) (β γ : B) {o p : Outcome S A} → Follows R o p → ((s t : S) → R s t → Q (put s β) (put t γ))
    → Follows Q (placed put β o) (placed put γ p)
follows_placed put β γ (lacked n) f = lacked n
follows_placed put β γ same_refusal f = same_refusal
follows_placed put β γ (goes {σ} {τ} r) f = goes (f σ τ r)

module _ {S A : Type 0} {R : S → S → Type 0} where
  pub follows_value : {σ τ : S} {a b : A} → R σ τ → a ≡ b → Follows R (given σ a) (given τ b)
  follows_value {σ} {τ} {a} r e = subst (λ (c : A). Follows R (given σ a) (given τ c)) e (goes r)

  pub follows_when : (b : Bool) {o p o' p' : Outcome S A} → Follows R o p → Follows R o' p' → Follows R (if b then o else o') (if b then p else p')
  follows_when true y n = y
  follows_when false y n = n

  -- tests that are equal
  pub follows_if : {b c : Bool} {o p o' p' : Outcome S A} → b ≡ c → Follows R o p → Follows R o' p' → Follows R (if b then o else o') (if c then p else p')
  follows_if {b} {o = o} {p = p} {o' = o'} {p' = p'} e y n = subst (λ (d : Bool). Follows R (if b then o else o') (if d then p else p')) e (follows_when b y n)

  -- .. and what the first says
  pub follows_case : {b c : Bool} {o p o' p' : Outcome S A} → b ≡ c → (b ≡ true → Follows R o p) → (b ≡ false → Follows R o' p') → Follows R (if b then o else o') (if c then p else p')
  follows_case {b} {o = o} {p = p} {o' = o'} {p' = p'} e y n = subst (λ (d : Bool). Follows R (if b then o else o') (if d then p else p')) e (go b y n)
    where
      go : (b : Bool) → (b ≡ true → Follows R o p) → (b ≡ false → Follows R o' p') → Follows R (if b then o else o') (if b then p else p')
      go true y n = y refl
      go false y n = n refl

  -- room in the first is room in the second
  pub follows_room : {number : ℕ} {o p : Outcome S A} → OfRoom number → (b c : Bool) → (b ≡ true → c ≡ true) → (b ≡ true → Follows R o p) → Follows R (if b then o else refused number) (if c then p else refused number)
  follows_room n true true f h = h refl
  follows_room n true false f h = absurd (false_true (f refl))
  follows_room n false c f h = lacked n

  -- ---- steps

  -- two steps that are equal, of which one respects R
  pub along : {c d : Step S A} → c ≡ d → Respects R c → (σ τ : S) → R σ τ → Follows R (c σ) (d τ)
  along {c} e h σ τ r = subst (λ (k : Step S A). Follows R (c σ) (k τ)) e (h σ τ r)

  -- a step that takes what is read, which is equal
  pub reading : {X : Type 0} {body : X → Step S A} → ((x : X) → Respects R (body x)) → {x y : X} → x ≡ y → (σ τ : S) → R σ τ → Follows R (body x σ) (body y τ)
  reading {X} {body} h {x} e σ τ r = subst (λ (y : X). Follows R (body x σ) (body y τ)) e (h x σ τ r)

  pub returns : (a : A) → Respects R (return a)
  returns a σ τ r = goes r

  pub test : (b : Bool) {c d : Step S A} → Respects R c → Respects R d → Respects R (if b then c else d)
  test true p q = p
  test false p q = q

  pub bind : {B : Type 0} {c : Step S A} {k : A → Step S B} → Respects R c → ((a : A) → Respects R (k a)) → Respects R (c >>= k)
  bind p q σ τ r = follows_bind (p σ τ r) (λ σ₁ τ₁ a r₁. q a σ₁ τ₁ r₁)

-- ---- values of two types, or of which more is said

-- as Follows; E relates the values, by the first store
pub data Meets {S A B : Type 0} (R : S → S → Type 0) (E : S → A → B → Type 0) : Outcome S A → Outcome S B → Type 0 where
  lacks : {number : ℕ} {p : Outcome S B} → OfRoom number → Meets R E (refused number) p
  refuses : {number : ℕ} → Meets R E (refused number) (refused number)
  meets : {σ τ : S} {a : A} {b : B} → R σ τ → E σ a b → Meets R E (given σ a) (given τ b)

pub meets_bind : {S A B C : Type 0} {R Q : S → S → Type 0} {E : S → B → C → Type 0} {o p : Outcome S A} {k : A → Step S B} {l : A → Step S C}
    → Follows R o p → ((σ τ : S) (a : A) → R σ τ → Meets Q E (k a σ) (l a τ)) → Meets Q E (after o k) (after p l)
meets_bind (lacked n) f = lacks n
meets_bind same_refusal f = refuses
meets_bind (goes {σ} {τ} {a} r) f = f σ τ a r

pub meets_given : {S A B C : Type 0} {R Q : S → S → Type 0} {E : S → B → C → Type 0} {P : S → A → Type 0} {o p : Outcome S A} {k : A → Step S B} {l : A → Step S C}
    → Gives P o → Follows R o p → ((σ τ : S) (a : A) → P σ a → R σ τ → Meets Q E (k a σ) (l a τ)) → Meets Q E (after o k) (after p l)
meets_given g (lacked n) f = lacks n
meets_given g same_refusal f = refuses
meets_given (gives q) (goes {σ} {τ} {a} r) f = f σ τ a q r

pub meets_then : {S A B C : Type 0} {R Q : S → S → Type 0} {E : S → A → B → Type 0} {o : Outcome S A} {p : Outcome S B} {k : A → Step S C} {l : B → Step S C}
    → Meets R E o p → ((σ τ : S) (a : A) (b : B) → R σ τ → E σ a b → Follows Q (k a σ) (l b τ)) → Follows Q (after o k) (after p l)
meets_then (lacks n) f = lacked n
meets_then refuses f = same_refusal
meets_then (meets {σ} {τ} {a} {b} r v) f = f σ τ a b r v

-- one value, of which P holds
pub data Same {A : Type 0} (P : A → Type 0) : A → A → Type 0 where
  same : {a : A} → P a → Same P a a

-- a test on values, the second of which may be read elsewhere
pub meets_if : {S A B : Type 0} {R : S → S → Type 0} {E : S → A → B → Type 0} {b c : Bool} (m k : Step S A) (m' k' : Step S B) {σ τ : S} → b ≡ c → Meets R E (m σ) (m' τ) → Meets R E (k σ) (k' τ)
    → Meets R E ((if b then m else k) σ) ((if c then m' else k') τ)
meets_if {R = R} {E = E} {b = b} m k m' k' {σ} {τ} e y n = subst (λ (c : Bool). Meets R E ((if b then m else k) σ) ((if c then m' else k') τ)) e (go b)
  where
    go : (b : Bool) → Meets R E ((if b then m else k) σ) ((if b then m' else k') τ)
    go true = y
    go false = n

pub meets_same : {S A C D : Type 0} {R Q : S → S → Type 0} {P : S → A → Type 0} {F : S → C → D → Type 0} {o p : Outcome S A} {k : A → Step S C} {l : A → Step S D}
    → Meets R (λ σ. Same (P σ)) o p → ((σ τ : S) (a : A) → R σ τ → P σ a → Meets Q F (k a σ) (l a τ)) → Meets Q F (after o k) (after p l)
meets_same (lacks n) f = lacks n
meets_same refuses f = refuses
meets_same (meets {σ} {τ} r (same {a} q)) f = f σ τ a r q

pub meets_follow : {S A C : Type 0} {R Q : S → S → Type 0} {P : S → A → Type 0} {o p : Outcome S A} {k : A → Step S C} {l : A → Step S C}
    → Meets R (λ σ. Same (P σ)) o p → ((σ τ : S) (a : A) → R σ τ → P σ a → Follows Q (k a σ) (l a τ)) → Follows Q (after o k) (after p l)
meets_follow (lacks n) f = lacked n
meets_follow refuses f = same_refusal
meets_follow (meets {σ} {τ} r (same {a} q)) f = f σ τ a r q
