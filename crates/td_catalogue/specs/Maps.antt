-- THE MAPS of the second shelf: which one a code is, and what it sends. A parameter P stands in the code's last digits.
use Rattle.std.specs.Prelude.{ℕ, ◌/◌, ◌%◌, ◌==◌, if◌then◌else◌, pos, neg_ℤ, ◌*ℤ◌, int_lt, unsigned_abs, List, [], ◌∷◌, Option, option_map}
use Rattle.std.specs.Map.{lookup}
use Rattle.std.specs.Ordering.{int_eq}
use Rattle.std.specs.Int.{cast_signed, cast_unsigned, int_div_euclid, int_rem_euclid, saturate_signed, w64}
use Rattle.td_stamp.specs.declared.values.Rec.{Rec}
use Rattle.td_calls.specs.Stock.{saturating_add, single, record_if}
use Rattle.td_catalogue.specs.declared.map_step.MapStep.{MapStep}
use Rattle.td_catalogue.specs.declared.map_step.MapStep.TheVariants as maps
use Rattle.td_catalogue.specs.Values.{divisor}

-- the maps with a parameter, by thousands
abbrev pub parameter_maps : List (ℕ × (ℕ → MapStep))
parameter_maps =
    (1, λ p. maps.ConstantKey p)
    ∷ (2, λ p. maps.KeyDivided p)
    ∷ (3, λ p. maps.KeyModulo p)
    ∷ (4, λ p. maps.ValueModulo p)
    ∷ (5, λ p. maps.Above p)
    ∷ (6, λ p. maps.Below p)
    ∷ (7, λ p. maps.Equal p)
    ∷ (8, λ p. maps.ValueDivided p)
    ∷ []

-- those without
abbrev pub plain_maps : List (ℕ × MapStep)
plain_maps =
    (9000, maps.Exchanged) ∷ (9001, maps.Negated) ∷ (9002, maps.Absolute) ∷ (9003, maps.Packed) ∷ (9004, maps.Unpacked) ∷ (9005, maps.KeyAsValue) ∷ []

abbrev pub map_of : ℕ → Option MapStep
map_of code =
    if code / 1000 == 9
    then lookup (λ c. c == code) plain_maps
    else option_map (λ step. step (code % 1000)) (lookup (λ c. c == code / 1000) parameter_maps)

-- what a map sends of a record
abbrev pub map_sent : MapStep → Rec → List Rec
map_sent (maps.ConstantKey p) r = single p r.val
map_sent (maps.KeyDivided p) r = single (r.key / divisor p) r.val
map_sent (maps.KeyModulo p) r = single (r.key % divisor p) r.val
map_sent (maps.ValueModulo p) r = single r.key (int_rem_euclid r.val (pos (divisor p)))
map_sent (maps.Above p) r = record_if (int_lt (pos p) r.val) r
map_sent (maps.Below p) r = record_if (int_lt r.val (pos p)) r
map_sent (maps.Equal p) r = record_if (int_eq r.val (pos p)) r
map_sent (maps.ValueDivided p) r = single r.key (int_div_euclid r.val (pos (divisor p)))
map_sent maps.Exchanged r = single (cast_unsigned w64 r.val) (cast_signed w64 r.key)
map_sent maps.Negated r = single r.key (saturate_signed w64 (neg_ℤ r.val))
map_sent maps.Absolute r = single r.key (saturate_signed w64 (pos (unsigned_abs r.val)))
map_sent maps.Packed r = single r.key (saturating_add (saturate_signed w64 (r.val *ℤ pos 1000000)) (pos (r.key % 1000000)))
map_sent maps.Unpacked r = single (cast_unsigned w64 (int_rem_euclid r.val (pos 1000000))) (int_div_euclid r.val (pos 1000000))
map_sent maps.KeyAsValue r = single r.key (cast_signed w64 r.key)
