-- a file that is there takes its bytes
use Rattle.std.proofs.Common.{◌≡◌, ◌∙◌, List, ℕ, Option, Some, None, IfSome, refl, ap}
use Rattle.files.specs.Memory.{kept_bytes, written_by}
use Rattle.files.specs.declared.testing.MemoryWriter.{MemoryWriter}
use Rattle.files.proofs.KeptLemmas.{held_is_placed, where_placed}
use Rattle.files.proofs.testing.MemoryFilesFiles.close.Goals as goal

-- of a file that is there
if_held : (held : Option (List ℕ)) {P : Type 0} → ((bytes : List ℕ) → held ≡ Some bytes → P) → IfSome held (λ _. P)
if_held None there = tt
if_held (Some bytes) there = there bytes refl

pub returns-clause-closed : goal.returns-clause-closed
returns-clause-closed c =
    let name = c.args.name.now in
    let files = c.args.self.now in
    if_held (kept_bytes files name) (λ bytes held.
    ap Some (where_placed c.store.result files name c.store.ensures.stored c.store.ensures.there (held_is_placed files name bytes held))
    ∙ ap (λ (writer : MemoryWriter). Some (Some (written_by writer))) c.into_inner.ensures)
