-- What is asked, what the answers say in the words of the steps, and the chain of a Sequence. The members are not read: they are any in what is said, and some with which the tables are in order in what is asked.
use Rattle.std.specs.Prelude.{◌≡◌, Bool, not, ◌&&◌, List, ℕ, ◌+◌, ◌*◌, ◌≤◌, ◌<◌, length, if◌then◌else◌, eqb, Result}
use Rattle.common.specs.Outcome.{given, Step}
use Rattle.common.specs.Runs.{Table}
use Rattle.refusal.specs.declared.Refusal.{Refusal}
use Rattle.refusal.specs.Numbers.{outcome}
use Rattle.aut_steps.specs.Relations as Rel
use Rattle.aut_steps.specs.Tables as M
use Rattle.aut_steps.specs.Tables.{SEQUENCE, TOP, kind_of, op1, op2, nest, Aut, aut, on_states}
use Rattle.aut_steps.specs.Ascending.{All}
use Rattle.aut_steps.specs.Intern.{intern2}
use Rattle.aut_steps.specs.Constructors.{relations, spp_of, mk_spp, mk_top, is_relation, sequence_by}
use Rattle.aut_states.specs.Clauses.{limits_of}
use Rattle.aut_states.specs.declared.Config.{Config}
use Rattle.aut_relations.specs.declared.Aut.{Aut as Lent}
use Rattle.aut_relations.specs.Clauses.{Ready}
use Rattle.aut_relations.specs.Lent.{nodes_in, states_in, Does}
use Rattle.aut_sequence.specs.declared.Task.{Task}
use Rattle.aut_sequence.specs.declared.Task.TheVariants.{Sequence, Star}

-- ---- tables whose members are not those that are lent

abbrev pub aut_with : Table → Lent → Aut
aut_with mem x = aut (nodes_in x) (states_in x) mem

-- with some members the tables are in order, and the operands are states
pub record SomeAsked (k : Config) (x : Lent) (operands : List ℕ) : Type 0 where
  pub members : Table
  pub fields : x.spp.fields ≡ k.fields
  pub ready : Ready k.fields k.limits (aut_with members x) x.scratch.now
  pub has : All (λ i. i < x.states.count) operands

-- with any members the step o comes to the answer
abbrev pub Makes : ℕ → Step Aut ℕ → Lent → Result ℕ Refusal → Lent → Type 0
Makes N o x r y = (mem : Table) → Does N 0 0 (aut_with mem) (λ i. i) o x r y

-- ---- sequence and star of relations

abbrev pub task_of : ℕ → Task → ℕ → ℕ → Step Table ℕ
task_of N Sequence a b = Rel.sequence N a b
task_of N Star a b = Rel.star N a

-- ---- what mk_sequence does

-- with the states st, x; y is regrouped
abbrev pub regroups : ℕ → List ℕ → ℕ → ℕ → Bool
regroups N st x y = eqb (kind_of st x) SEQUENCE && (not (is_relation st y (Rel.one_at N)) && not (is_relation st y (Rel.zero_at N)))

-- x; y where it is not
unfoldable pub joined_of : ℕ → M.Limits → ℕ → ℕ → Step Aut ℕ
joined_of N L x y σ =
    let st : List ℕ = σ.states.words in
    if relations st x y then spp_of (Rel.sequence N (op1 st x) (op1 st y)) σ
    else if is_relation st x (Rel.one_at N) then given σ y
    else if is_relation st x (Rel.zero_at N) then on_states (mk_spp (Rel.zero_at N)) σ
    else if is_relation st y (Rel.one_at N) then given σ x
    else if is_relation st y (Rel.zero_at N) then on_states (mk_spp (Rel.zero_at N)) σ
    else if eqb (kind_of st x) TOP && eqb (kind_of st y) TOP then on_states mk_top σ
    else on_states (intern2 L SEQUENCE x y) σ

-- every depth from the nesting of x on is enough
abbrev pub Enough : Config → ℕ → ℕ → Lent → Result ℕ Refusal → Lent → Type 0
Enough k x y l r m = (depth : ℕ) → nest l.states.words.now x ≤ depth → (mem : Table) → sequence_by k.fields (limits_of k.limits) depth x y (aut_with mem l) ≡ outcome (λ i. i) r (aut_with mem m)

-- ---- the chain of a Sequence

-- from x along second operands of Sequences to e
pub data Chain (st : List ℕ) (x : ℕ) : ℕ → Type 0 where
  top : Chain st x x
  below : {w : ℕ} → Chain st x w → kind_of st w ≡ SEQUENCE → Chain st x (op2 st w)

-- so many states; the second operand of a Sequence is one that is nested lower
pub record Nested (st : List ℕ) (count : ℕ) : Type 0 where
  pub inside : (x : ℕ) → x < count → 12 * x + 11 < length st
  pub lower : (x : ℕ) → x < count → kind_of st x ≡ SEQUENCE → (op2 st x < count) × (nest st (op2 st x) < nest st x)

pub record Walks (st : List ℕ) (x : ℕ) : Type 0 where
  pub count : ℕ
  pub nested : Nested st count
  pub has : x < count

-- e is the end of x's chain
pub record Ends (st : List ℕ) (x e : ℕ) : Type 0 where
  pub chain : Chain st x e
  pub last : kind_of st e ≡ SEQUENCE → ⊥

-- r is on x's chain, and u comes after it
pub record Links (st : List ℕ) (x u r : ℕ) : Type 0 where
  pub chain : Chain st x r
  pub link : kind_of st r ≡ SEQUENCE
  pub next : op2 st r ≡ u
