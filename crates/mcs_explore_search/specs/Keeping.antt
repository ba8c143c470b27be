-- What a search keeps while it goes.
use Rattle.std.specs.Prelude.{◌≡◌, ◌≤◌, ◌<◌, ◌+◌, ◌++◌, ◌⊎◌, Bool, ℕ, List, [], ◌∷◌, Some, length, slice_get}
use Rattle.mcs_explore_search.specs.declared.search.Edge.{Edge}
use Rattle.mcs_explore_search.specs.declared.search.Found.{Found}
use Rattle.mcs_explore_search.specs.Paths.{Steps}
use Rattle.mcs_explore_search.specs.Closure.{Visit, IsVisited}
use Rattle.mcs_explore_search.specs.Search.{Entries, At, Same, IsFound, AreEdges, AreNexts}

-- a key is there
pub record IsThere {K L : Type 0} (eq : K → K → Bool) (E : Entries K L) (k : K) : Type 0 where
  pub place : ℕ
  pub other : K
  pub found : Found L
  pub at : At E place other found
  pub same : Same eq k other

-- a key is in this place
pub record HasPlace {K L : Type 0} (eq : K → K → Bool) (E : Entries K L) (k : K) (place : ℕ) : Type 0 where
  pub other : K
  pub found : Found L
  pub at : At E place other found
  pub same : Same eq k other

-- a key was noted: it was there, or is new
abbrev pub Adds : {K L : Type 0} → (K → K → Bool) → Entries K L → K → Found L → Entries K L → Type 0
Adds {K = K} {L = L} eq E k f F = (IsThere eq E k × (F ≡ E)) ⊎ (((i : ℕ) (c : K) (g : Found L) → At E i c g → Same eq k c → ⊥) × (F ≡ E ++ (k, f) ∷ []))

-- nothing was taken away or changed
abbrev pub IsLonger : {K L : Type 0} → Entries K L → Entries K L → Type 0
IsLonger {K = K} {L = L} E F = (more : Entries K L) × (F ≡ E ++ more)

-- what is new was found from this place
abbrev pub AreFrom : {K L : Type 0} → ℕ → Entries K L → Entries K L → Type 0
AreFrom {K = K} {L = L} place E F = (i : ℕ) (k : K) (f : Found L) → At F i k f → length E ≤ i → f.parent ≡ place

-- what was noted of a child: a label leads to its state from that of its parent, which is one step
-- nearer
pub record IsChild {A K L : Type 0} (Leads : L → A → A → Type 0) (E : Entries K L) (visits : List (Visit A)) (f : Found L) (s : A) : Type 0 where
  pub label : L
  pub labelled : f.label ≡ label
  pub key : K
  pub found : Found L
  pub at : At E f.parent key found
  pub deep : f.depth ≡ found.depth + 1
  pub visit : Visit A
  pub there : slice_get visits f.parent ≡ Some visit
  pub step : Leads label visit.state s

-- the visit of an entry: its depth, a state with its key, and how it was found
pub record IsGrown {A K L : Type 0} (Leads : L → A → A → Type 0) (IsKey : A → K → Type 0) (start : A) (E : Entries K L) (visits : List (Visit A)) (i : ℕ) (k : K) (f : Found L) : Type 0 where
  pub visit : Visit A
  pub there : slice_get visits i ≡ Some visit
  pub deep : visit.depth ≡ f.depth
  pub key : IsKey visit.state k
  pub from : ((f.depth ≡ 0) × (visit.state ≡ start)) ⊎ IsChild Leads E visits f visit.state

-- what holds of entries and their visits, of which those below d were expanded
pub record IsSearch {A K L : Type 0} (eq : K → K → Bool) (Leads : L → A → A → Type 0) (Like : A → A → Type 0) (IsKey : A → K → Type 0) (start : A) (d : ℕ) (E : Entries K L) (visits : List (Visit A)) : Type 0 where
  pub long : length visits ≡ length E
  pub first : IsVisited Like visits start 0
  pub grown : (i : ℕ) (k : K) (f : Found L) → At E i k f → IsGrown Leads IsKey start E visits i k f
  pub closed : (i : ℕ) (v : Visit A) → i < d → slice_get visits i ≡ Some v → (t : A) → Steps Leads v.state t → IsVisited Like visits t (v.depth + 1)
  pub sorted : (i j : ℕ) (k l : K) (f g : Found L) → i ≤ j → At E i k f → At E j l g → f.depth ≤ g.depth
  pub near : (i j : ℕ) (k l : K) (f g : Found L) → d ≤ i → At E i k f → At E j l g → g.depth ≤ f.depth + 1
  pub once : (i j : ℕ) (k c : K) (f g : Found L) → At E i k f → At E j c g → Same eq k c → i ≡ j
  pub small : (i : ℕ) (k : K) (f : Found L) → At E i k f → f.depth ≤ i

-- there are such visits, with these edges between them
pub record IsSearching {A K L : Type 0} (eq : K → K → Bool) (Leads : L → A → A → Type 0) (Like : A → A → Type 0) (IsKey : A → K → Type 0) (start : A) (d : ℕ) (E : Entries K L) (G : List (Edge L)) : Type 0 where
  pub visits : List (Visit A)
  pub is : IsSearch eq Leads Like IsKey start d E visits
  pub edges : AreEdges Leads Like d visits G

-- a search that has expanded one place more
abbrev pub Goes : {A K L : Type 0} → (K → K → Bool) → (L → A → A → Type 0) → (A → A → Type 0) → (A → K → Type 0) → A → Entries K L → List (Edge L) → ℕ → ℕ → List (L × K) → Entries K L → List (Edge L) → Type 0
Goes {A = A} {K = K} {L = L} eq Leads Like IsKey start E G place depth nexts F H = (visits : List (Visit A)) (k : K) (f : Found L) (v : Visit A) → IsSearch eq Leads Like IsKey start place E visits → AreEdges Leads Like place visits G → At E place k f
    → slice_get visits place ≡ Some v → depth ≡ f.depth → AreNexts Leads IsKey v.state nexts → IsSearching eq Leads Like IsKey start (place + 1) F H

-- an edge of these, by its number, leads by a label from the place d to that of a key
pub record IsLinked {K L : Type 0} (eq : K → K → Bool) (E : Entries K L) (d : ℕ) (edges : List (Edge L)) (i : ℕ) (l : L) (c : K) : Type 0 where
  pub edge : Edge L
  pub at : slice_get edges i ≡ Some edge
  pub from : edge.from ≡ d
  pub label : edge.label ≡ l
  pub to : HasPlace eq E c edge.to

-- the keys of the first n steps from the state in the place d are found, and have the edges that
-- came last
pub record IsAmid {A K L : Type 0} (eq : K → K → Bool) (Leads : L → A → A → Type 0) (Like : A → A → Type 0) (IsKey : A → K → Type 0) (start : A) (d : ℕ) (E : Entries K L) (k : K) (f : Found L) (v : Visit A) (nexts : List (L × K)) (n : ℕ) (G H : List (Edge L)) : Type 0 where
  pub visits : List (Visit A)
  pub search : IsSearch eq Leads Like IsKey start d E visits
  pub at : At E d k f
  pub there : slice_get visits d ≡ Some v
  pub found : (i : ℕ) (l : L) (c : K) → i < n → slice_get nexts i ≡ Some (l, c) → IsFound eq E c (f.depth + 1)
  pub before : AreEdges Leads Like d visits G
  pub more : List (Edge L)
  pub longer : H ≡ G ++ more
  pub few : length more ≡ n
  pub linked : (i : ℕ) (l : L) (c : K) → i < n → slice_get nexts i ≡ Some (l, c) → IsLinked eq E d more i l c
