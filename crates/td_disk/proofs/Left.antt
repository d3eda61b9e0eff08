-- What a crash of the disk in memory leaves is one of its images.
use Rattle.std.proofs.Common.{ℕ, List, [], ◌∷◌, replicate, refl, subst}
use Rattle.std.proofs.lemmas.List.{length-replicate}
use Rattle.td_disk.specs.Disk.{SameOutside}
use Rattle.td_disk.specs.declared.memory.Fill.{Fill}
use Rattle.td_disk.specs.declared.memory.Fill.TheVariants.{Old, New, All}
use Rattle.td_disk.specs.Record.{Contents, overwritten, MayLeave, IsImage, filled, crash_image}
use Rattle.td_disk.specs.RecordProofs.{overwritten_outside}

durable_is_image : (durable : List ℕ) (pending : List (ℕ × ℕ)) → MayLeave durable pending durable
durable_is_image durable [] = refl
durable_is_image durable (range ∷ earlier) = (durable, durable_is_image durable earlier, record { size = refl; before = λ i l. refl; after = λ i l. refl })

filled_outside : (byte at n : ℕ) (image : List ℕ) → SameOutside at n image (overwritten at (replicate n byte) image)
filled_outside byte at n image = subst (λ (m : ℕ). SameOutside at m image (overwritten at (replicate n byte) image)) (length-replicate n byte) (overwritten_outside at (replicate n byte) image)

filled_is_image : (byte : ℕ) (durable : List ℕ) (pending : List (ℕ × ℕ)) → MayLeave durable pending (filled byte pending durable)
filled_is_image byte durable [] = refl
filled_is_image byte durable (range ∷ earlier) = (filled byte earlier durable, filled_is_image byte durable earlier, filled_outside byte range.0 range.1 (filled byte earlier durable))

pub crash_is_image : (fill : Fill) (k : Contents) → IsImage k k.bytes → IsImage k (crash_image fill k)
crash_is_image Old k read = durable_is_image k.durable k.pending
crash_is_image New k read = read
crash_is_image (All byte) k read = filled_is_image byte k.durable k.pending
