-- A plan as a picture, in the language of Graphviz.
use Rattle.std.specs.Prelude.{ℕ, ◌+◌, ◌==◌, nat_lt, if◌then◌else◌, List, [], ◌∷◌, ◌++◌, length, flat_map, codes, decimal}
use Rattle.std.specs.List.{enumerate_from}
use Rattle.td_plan.specs.declared.vertex.Kind.{Kind}
use Rattle.td_plan.specs.declared.vertex.Kind.TheVariants.{Input, Map, Distinct, Group, Fold, Enter, Feedback, Leave, Output}
use Rattle.td_plan.specs.Lines.{Vertex, Line, name_of}
use Rattle.td_plan.specs.Lines.Line.{vertex, loop, end}
use Rattle.td_plan.specs.Blocks.{vertices}
use Rattle.td_plan.specs.Faults.{is_feedback}
use Rattle.td_picture.specs.Words.{Text, told_between}

-- how the node of a kind looks
abbrev pub look_of : Kind → Text
look_of Input = codes "shape=cds"
look_of (Map code) = codes "shape=box"
look_of Distinct = codes "shape=box, style=rounded"
look_of (Group code) = codes "shape=box, style=filled"
look_of (Fold code) = codes "shape=cylinder"
look_of Enter = codes "shape=circle, fontsize=10"
look_of Feedback = codes "shape=circle, fontsize=10"
look_of Leave = codes "shape=circle, fontsize=10"
look_of Output = codes "shape=ellipse"

-- the node of a vertex: `vN [LOOK, label="N KIND CODE\nWORDS"];`
abbrev pub node_of : Vertex → Text
node_of v = codes "v" ++ decimal v.number ++ codes " [" ++ look_of v.kind ++ codes ", label=\"" ++ name_of v ++ told_between (codes "\\n") [] v.kind ++ codes "\"];\n"

abbrev pub turns_of : ℕ → Text
turns_of bound = if bound == 1 then codes "turn" else codes "turns"

-- the head of loop n: its frame, how that looks, and what stands on it
abbrev pub frame_of : ℕ → Text
frame_of n = codes "subgraph cluster_" ++ (decimal n ++ codes " {\n")

abbrev pub frame_look : Text
frame_look = codes "style=\"rounded,filled\"; fillcolor=\"#0000ff12\"; "

abbrev pub label_of : ℕ → Text
label_of bound = codes "label=\"loop, at most " ++ (decimal bound ++ (codes " " ++ (turns_of bound ++ codes "\";\n")))

abbrev pub head_of : ℕ → ℕ → Text
head_of n bound = frame_of n ++ (frame_look ++ label_of bound)

-- the lines of a plan, of which the next loop has number n
abbrev pub nodes_of : ℕ → List Line → Text
nodes_of n [] = []
nodes_of n (vertex v ∷ lines) = node_of v ++ nodes_of n lines
nodes_of n (loop bound ∷ lines) = head_of n bound ++ nodes_of (n + 1) lines
nodes_of n (end ∷ lines) = codes "}\n" ++ nodes_of n lines

-- the port of an edge, where its reader has more than one source
abbrev pub port_of : Vertex → ℕ → Text
port_of v port = if nat_lt 1 (length v.sources) then codes " [headlabel=\"" ++ decimal port ++ codes "\"]" else []

-- the look of an edge that leads to a feedback, which goes back
abbrev pub back_of : Vertex → Text
back_of v = if is_feedback v.kind then codes " [style=dashed, constraint=false]" else []

-- the edge that leads to a vertex at a port: `vS -> vN [headlabel="PORT"];`
abbrev pub edge_of : Vertex → ℕ × ℕ → Text
edge_of v (port, source) =
    codes "v" ++ decimal source ++ codes " -> v" ++ decimal v.number ++ port_of v port ++ back_of v ++ codes ";\n"

abbrev pub edges_of : Vertex → Text
edges_of v = flat_map (edge_of v) (enumerate_from 0 v.sources)

-- THE PICTURE of a plan: its vertices, those of a loop in a frame of its own, and then its edges
abbrev pub picture_of : List Line → Text
picture_of plan = codes "digraph plan {\nrankdir=LR;\n" ++ nodes_of 1 plan ++ flat_map (λ p. edges_of p.vertex) (vertices plan) ++ codes "}\n"
