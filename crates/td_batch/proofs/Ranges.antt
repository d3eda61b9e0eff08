-- In a well placed block the sources of each vertex lie in a range of numbers.
use Rattle.std.proofs.Common.{◌≡◌, ℕ, ◌+◌, ◌<◌, ◌≤◌, ◌==◌, true, List, [], ◌++◌, arith}
use Rattle.std.specs.List.{AllByRecursion, list_any}
use Rattle.td_plan.specs.declared.vertex.Kind.{Kind}
use Rattle.td_plan.specs.declared.vertex.Kind.TheVariants.{Enter, Feedback, Leave}
use Rattle.td_plan.specs.Lines.{Vertex}
use Rattle.td_plan.specs.Tree.{Nodes, size}
use Rattle.td_plan.specs.Tree.Nodes.{done, node, block}
use Rattle.td_plan.specs.Placed.{leave_of, leaves_of, read_of, read_in, readable, IsWellPlaced}
use Rattle.td_batch.proofs.Lists.{AreAmong, pick, all_append, all_map}

-- from low on and below high
abbrev pub AllIn : ℕ → ℕ → List ℕ → Type 0
AllIn low high xs = AllByRecursion (λ s. (low ≤ s) × (s < high)) xs

-- where the sources of the n-th vertex are, in a block of the vertices from first on and below total, inside one that
-- begins at outer: an enter's outside, a feedback's anywhere on the block, all others' on the block so far
abbrev pub AreSources : ℕ → ℕ → ℕ → ℕ → Kind → List ℕ → Type 0
AreSources outer first total n Enter sources = AllIn outer first sources
AreSources outer first total n Feedback sources = AllIn first total sources
AreSources outer first total n _ sources = AllIn first n sources

abbrev pub IsRanged : ℕ → ℕ → ℕ → ℕ → Nodes → Type 0
IsRanged outer first total n done = Unit {0}
IsRanged outer first total n (node v rest) = (v.number ≡ n) × AreSources outer first total n v.kind v.sources × IsRanged outer first total (n + 1) rest
IsRanged outer first total n (block bound body rest) = IsRanged first n (n + size body) n body × IsRanged outer first total (n + size body) rest

all_wider : (low wider_low high wider_high : ℕ) (xs : List ℕ) → wider_low ≤ low → high ≤ wider_high → AllIn low high xs → AllIn wider_low wider_high xs
all_wider low wider_low high wider_high xs l h a = all_map (λ s. (low ≤ s) × (s < high)) (λ s. (wider_low ≤ s) × (s < wider_high)) (λ s b. (omega (arith, b.0), omega (arith, b.1))) xs a

both_in : (low high : ℕ) (xs ys : List ℕ) → AllIn low high xs → AllIn low high ys → AllIn low high (xs ++ ys)
both_in low high xs ys a b = all_append (λ s. (low ≤ s) × (s < high)) xs ys a b

pick_in : (low high : ℕ) (xs sources : List ℕ) → AllIn low high xs → AreAmong xs sources → AllIn low high sources
pick_in low high xs sources a found = all_map (λ s. list_any (λ x. x == s) xs ≡ true) (λ s. (low ≤ s) × (s < high)) (λ s f. pick (λ s. (low ≤ s) × (s < high)) xs s a f) sources found

leave_range : (n high : ℕ) (v : Vertex) (kind : Kind) → v.number ≡ n → n < high → AllIn n high (leave_of v kind)
leave_range n high v Leave e h = ((omega arith, omega arith), tt)
leave_range n high v _ e h = tt

read_range : (n high : ℕ) (v : Vertex) (kind : Kind) → v.number ≡ n → n < high → AllIn n high (read_of v kind)
read_range n high v Leave e h = tt
read_range n high v _ e h = ((omega arith, omega arith), tt)

-- what is read of a block is of its vertices
leaves_range : (nodes : Nodes) (all outer own : List ℕ) (n high : ℕ) → n + size nodes ≤ high → IsWellPlaced all outer own n nodes → AllIn n high (leaves_of nodes)
leaves_range done all outer own n high h p = tt
leaves_range (node v rest) all outer own n high h p =
    both_in n high (leave_of v v.kind) (leaves_of rest) (leave_range n high v v.kind p.0 (omega arith))
    (all_wider (n + 1) n high high (leaves_of rest) (omega arith) (omega arith) (leaves_range rest all outer (own ++ read_of v v.kind) (n + 1) high (omega arith) p.2))
leaves_range (block b body rest) all outer own n high h p =
    all_wider (n + size body) n high high (leaves_of rest) (omega arith) (omega arith) (leaves_range rest all outer (own ++ leaves_of body) (n + size body) high (omega arith) p.1)

pub block_range : (nodes : Nodes) (all outer own : List ℕ) (n high : ℕ) → n + size nodes ≤ high → IsWellPlaced all outer own n nodes → AllIn n high (read_in nodes)
block_range done all outer own n high h p = tt
block_range (node v rest) all outer own n high h p =
    both_in n high (read_of v v.kind) (read_in rest) (read_range n high v v.kind p.0 (omega arith))
    (all_wider (n + 1) n high high (read_in rest) (omega arith) (omega arith) (block_range rest all outer (own ++ read_of v v.kind) (n + 1) high (omega arith) p.2))
block_range (block b body rest) all outer own n high h p =
    both_in n high (leaves_of body) (read_in rest) (leaves_range body (read_in body) own [] n high (omega arith) p.0)
    (all_wider (n + size body) n high high (read_in rest) (omega arith) (omega arith) (block_range rest all outer (own ++ leaves_of body) (n + size body) high (omega arith) p.1))

sources_range : (kind : Kind) (all outer own sources : List ℕ) (outer_first first total n : ℕ) → AllIn first total all → AllIn outer_first first outer → AllIn first n own
    → AreAmong (readable all outer own kind) sources → AreSources outer_first first total n kind sources
sources_range Enter all outer own sources outer_first first total n a o w r = pick_in outer_first first outer sources o r
sources_range Feedback all outer own sources outer_first first total n a o w r = pick_in first total all sources a r
sources_range _ all outer own sources outer_first first total n a o w r = pick_in first n own sources w r

pub ranged : (nodes : Nodes) (all outer own : List ℕ) (outer_first first total n : ℕ) → first ≤ n → AllIn first total all → AllIn outer_first first outer → AllIn first n own
    → IsWellPlaced all outer own n nodes → IsRanged outer_first first total n nodes
ranged done all outer own outer_first first total n h a o w p = tt
ranged (node v rest) all outer own outer_first first total n h a o w p =
    let here : AllIn n (n + 1) (read_of v v.kind) = read_range n (n + 1) v v.kind p.0 (omega arith) in
    let longer : AllIn first (n + 1) (own ++ read_of v v.kind) =
    both_in first (n + 1) own (read_of v v.kind) (all_wider first first n (n + 1) own (omega arith) (omega arith) w) (all_wider n first (n + 1) (n + 1) (read_of v v.kind) h (omega arith) here) in
    (p.0, sources_range v.kind all outer own v.sources outer_first first total n a o w p.1, ranged rest all outer (own ++ read_of v v.kind) outer_first first total (n + 1) (omega arith) a o longer p.2)
ranged (block b body rest) all outer own outer_first first total n h a o w p =
    let leaves : AllIn n (n + size body) (leaves_of body) = leaves_range body (read_in body) own [] n (n + size body) (omega arith) p.0 in
    let longer : AllIn first (n + size body) (own ++ leaves_of body) =
    both_in first (n + size body) own (leaves_of body) (all_wider first first n (n + size body) own (omega arith) (omega arith) w) (all_wider n first (n + size body) (n + size body) (leaves_of body) h (omega arith) leaves) in (
      ranged body (read_in body) own [] first n (n + size body) n (omega arith) (block_range body (read_in body) own [] n (n + size body) (omega arith) p.0) w tt p.0,
      ranged rest all outer (own ++ leaves_of body) outer_first first total (n + size body) (omega arith) a o longer p.1,
    )
