-- A search through states, by their keys.
use Rattle.std.specs.Prelude.{◌+◌, ◌≡◌, ◌≤◌, ◌<◌, ◌++◌, ◌⊎◌, Bool, true, ℕ, zero, suc, List, [], ◌∷◌, Option, Some, None, length, slice_get}
use Rattle.mcs_explore_search.specs.declared.search.Edge.{Edge}
use Rattle.mcs_explore_search.specs.declared.search.Found.{Found}
use Rattle.mcs_explore_search.specs.Paths.{Run, Path, Steps}
use Rattle.mcs_explore_search.specs.Closure.{Visit, IsClosed, IsClosedTo, IsVisited}

-- the keys that were found, and how
abbrev pub Entries : Type 0 → Type 0 → Type 0
Entries K L = List (K × Found L)

-- a key is in this place
abbrev pub At : {K L : Type 0} → Entries K L → ℕ → K → Found L → Type 0
At E i k f = slice_get E i ≡ Some (k, f)

-- the depth, the parent and the label of what is in a place, if there is something
abbrev pub depth_at : {K L : Type 0} → Entries K L → ℕ → ℕ
depth_at E i = elim (slice_get E i) [ None ↦ 0 | Some e ↦ e.1.depth ]

abbrev pub parent_at : {K L : Type 0} → Entries K L → ℕ → ℕ
parent_at E i = elim (slice_get E i) [ None ↦ i | Some e ↦ e.1.parent ]

abbrev pub label_at : {K L : Type 0} → Entries K L → ℕ → Option L
label_at E i = elim (slice_get E i) [ None ↦ None | Some e ↦ Some e.1.label ]

-- a label, if there is one
abbrev pub listed : {L : Type 0} → Option L → List L
listed None = []
listed (Some l) = l ∷ []

-- the labels along this many parents from a place, the last of them first
abbrev pub path_back : {K L : Type 0} → Entries K L → ℕ → ℕ → List L
path_back E i zero = []
path_back E i (suc n) = path_back E (parent_at E i) n ++ listed (label_at E i)

-- the labels from the start to what is in a place
abbrev pub path_of : {K L : Type 0} → Entries K L → ℕ → List L
path_of E i = path_back E i (depth_at E i)

-- the paths to what is in the first n places
abbrev pub paths_below : {K L : Type 0} → Entries K L → ℕ → List (List L)
paths_below E zero = []
paths_below E (suc n) = paths_below E n ++ path_of E n ∷ []

-- keys that are compared as equal
abbrev pub Same : {K : Type 0} → (K → K → Bool) → K → K → Type 0
Same eq k c = eq k c ≡ true

-- a key is there, and was found by at most this many steps
pub record IsFound {K L : Type 0} (eq : K → K → Bool) (E : Entries K L) (k : K) (n : ℕ) : Type 0 where
  pub place : ℕ
  pub other : K
  pub found : Found L
  pub at : At E place other found
  pub same : Same eq k other
  pub near : found.depth ≤ n

-- a label that leads from a state, and a key of where it leads
pub record IsNext {A K L : Type 0} (Leads : L → A → A → Type 0) (IsKey : A → K → Type 0) (s : A) (l : L) (k : K) : Type 0 where
  pub state : A
  pub step : Leads l s state
  pub key : IsKey state k

-- a key of a state is among those, with this label
pub record IsAmong {A K L : Type 0} (IsKey : A → K → Type 0) (nexts : List (L × K)) (label : L) (t : A) : Type 0 where
  pub place : ℕ
  pub key : K
  pub at : slice_get nexts place ≡ Some (label, key)
  pub is : IsKey t key

-- the labels that lead from a state and the keys of where they lead, all of those
pub record AreNexts {A K L : Type 0} (Leads : L → A → A → Type 0) (IsKey : A → K → Type 0) (s : A) (nexts : List (L × K)) : Type 0 where
  pub each : (i : ℕ) (l : L) (k : K) → slice_get nexts i ≡ Some (l, k) → IsNext Leads IsKey s l k
  pub all : (l : L) (t : A) → Leads l s t → IsAmong IsKey nexts l t

-- the state of an entry: a run of its depth leads to it along its path, and it has its key
pub record IsReached {A K L : Type 0} (Leads : L → A → A → Type 0) (IsKey : A → K → Type 0) (start : A) (E : Entries K L) (i : ℕ) (k : K) (f : Found L) (s : A) : Type 0 where
  pub run : Run (Steps Leads) start f.depth s
  pub path : Path Leads start (path_of E i) s
  pub long : length (path_of E i) ≡ f.depth
  pub key : IsKey s k

-- each entry is that of a state
abbrev pub AreReached : {A K L : Type 0} → (L → A → A → Type 0) → (A → K → Type 0) → A → Entries K L → Type 0
AreReached {A = A} {K = K} {L = L} Leads IsKey start E = (i : ℕ) (k : K) (f : Found L) → At E i k f → (s : A) × IsReached Leads IsKey start E i k f s

-- an entry after another is no nearer
abbrev pub AreSorted : {K L : Type 0} → Entries K L → Type 0
AreSorted {K = K} {L = L} E = (i j : ℕ) (k l : K) (f g : Found L) → i ≤ j → At E i k f → At E j l g → f.depth ≤ g.depth

-- no key is there twice
abbrev pub AreApart : {K L : Type 0} → (K → K → Bool) → Entries K L → Type 0
AreApart {K = K} {L = L} eq E = (i j : ℕ) (k c : K) (f g : Found L) → At E i k f → At E j c g → Same eq k c → i ≡ j

-- the visit of an entry has its depth and its state
pub record IsVisitOf {A K L : Type 0} (Leads : L → A → A → Type 0) (IsKey : A → K → Type 0) (start : A) (E : Entries K L) (visits : List (Visit A)) (i : ℕ) (k : K) (f : Found L) : Type 0 where
  pub visit : Visit A
  pub there : slice_get visits i ≡ Some visit
  pub deep : visit.depth ≡ f.depth
  pub reached : IsReached Leads IsKey start E i k f visit.state

-- a visit for each entry
pub record AreVisits {A K L : Type 0} (Leads : L → A → A → Type 0) (IsKey : A → K → Type 0) (start : A) (E : Entries K L) (visits : List (Visit A)) : Type 0 where
  pub long : length visits ≡ length E
  pub each : (i : ℕ) (k : K) (f : Found L) → At E i k f → IsVisitOf Leads IsKey start E visits i k f

-- visits, which steps do not leave from any of the first d of them, but for likeness
pub record IsClosedBelow {A K L : Type 0} (Leads : L → A → A → Type 0) (Like : A → A → Type 0) (IsKey : A → K → Type 0) (start : A) (d : ℕ) (E : Entries K L) : Type 0 where
  pub visits : List (Visit A)
  pub are : AreVisits Leads IsKey start E visits
  pub closed : IsClosedTo (Steps Leads) Like start d visits

-- visits, which steps do not leave, but for likeness
pub record IsWhole {A K L : Type 0} (Leads : L → A → A → Type 0) (Like : A → A → Type 0) (IsKey : A → K → Type 0) (start : A) (E : Entries K L) : Type 0 where
  pub visits : List (Visit A)
  pub are : AreVisits Leads IsKey start E visits
  pub closed : IsClosed (Steps Leads) Like start visits

-- the label of an edge leads from the state in its place to one like the state in its target
pub record IsEdge {A L : Type 0} (Leads : L → A → A → Type 0) (Like : A → A → Type 0) (visits : List (Visit A)) (e : Edge L) : Type 0 where
  pub from : Visit A
  pub at : slice_get visits e.from ≡ Some from
  pub to : Visit A
  pub there : slice_get visits e.to ≡ Some to
  pub state : A
  pub step : Leads e.label from.state state
  pub like : Like state to.state

-- an edge with this label leads from a place to that of a state which is like this one
pub record HasEdge {A L : Type 0} (Like : A → A → Type 0) (visits : List (Visit A)) (edges : List (Edge L)) (i : ℕ) (l : L) (t : A) : Type 0 where
  pub number : ℕ
  pub edge : Edge L
  pub at : slice_get edges number ≡ Some edge
  pub from : edge.from ≡ i
  pub label : edge.label ≡ l
  pub to : Visit A
  pub there : slice_get visits edge.to ≡ Some to
  pub like : Like t to.state

-- each edge is a step by its label, and each step from one of the first d visits has an edge with
-- its label
pub record AreEdges {A L : Type 0} (Leads : L → A → A → Type 0) (Like : A → A → Type 0) (d : ℕ) (visits : List (Visit A)) (edges : List (Edge L)) : Type 0 where
  pub each : (n : ℕ) (e : Edge L) → slice_get edges n ≡ Some e → IsEdge Leads Like visits e
  pub all : (i : ℕ) (v : Visit A) → i < d → slice_get visits i ≡ Some v → (l : L) (t : A) → Leads l v.state t → HasEdge Like visits edges i l t

-- visits of the start and of all entries, and the edges between them
pub record IsGraph {A K L : Type 0} (Leads : L → A → A → Type 0) (Like : A → A → Type 0) (IsKey : A → K → Type 0) (start : A) (d : ℕ) (E : Entries K L) (G : List (Edge L)) : Type 0 where
  pub visits : List (Visit A)
  pub are : AreVisits Leads IsKey start E visits
  pub first : IsVisited Like visits start 0
  pub edges : AreEdges Leads Like d visits G

-- what was found reaches a budget of states, or what comes next one of depth
abbrev pub IsSpent : {K L : Type 0} → ℕ → ℕ → ℕ → Entries K L → Type 0
IsSpent states depth done E = (states ≤ length E) ⊎ (depth ≤ depth_at E done)

-- each of the first places is nearer than a budget of depth
abbrev pub AreNear : {K L : Type 0} → ℕ → ℕ → Entries K L → Type 0
AreNear depth done E = (i : ℕ) → i < done → depth_at E i < depth

-- what is beyond a budget of states, but the start, was found from the last of the first places
abbrev pub AreFoundLast : {K L : Type 0} → ℕ → ℕ → Entries K L → Type 0
AreFoundLast {K = K} {L = L} states done E = (i : ℕ) (k : K) (f : Found L) → At E i k f → 0 < i → states ≤ i → f.parent + 1 ≡ done

-- alike states have no two keys
abbrev pub HaveOneKey : {A K : Type 0} → (K → K → Bool) → (A → A → Type 0) → (A → K → Type 0) → Type 0
HaveOneKey {A = A} {K = K} eq Like IsKey = (s t : A) (k c : K) → Like s t → IsKey s k → IsKey t c → Same eq k c

-- no run from the start to a state with the key of an entry is shorter than its depth says
abbrev pub AreLeast : {A K L : Type 0} → (L → A → A → Type 0) → (A → K → Type 0) → A → Entries K L → Type 0
AreLeast {A = A} {K = K} {L = L} Leads IsKey start E = (i : ℕ) (k : K) (f : Found L) → At E i k f → (n : ℕ) (t : A) → Run (Steps Leads) start n t → IsKey t k → f.depth ≤ n

-- each key of a state that a run from the start ends in was found, by no more steps
abbrev pub AreAllFound : {A K L : Type 0} → (K → K → Bool) → (L → A → A → Type 0) → (A → K → Type 0) → A → Entries K L → Type 0
AreAllFound {A = A} {K = K} eq Leads IsKey start E = (n : ℕ) (t : A) (k : K) → Run (Steps Leads) start n t → IsKey t k → IsFound eq E k n
