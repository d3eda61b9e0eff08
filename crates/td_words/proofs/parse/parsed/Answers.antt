use Rattle.std.proofs.Common.{sym, subst, refl, inr, map}
use Rattle.std.specs.Prelude.{string_bytes}
use Rattle.clap.specs.Words.{kind_of, subcommand_rows_of}
use Rattle.td_words.specs.Command.{IsNamed}
use Rattle.td_words.proofs.Asked.{asked_by, has_workers, helped_by, help_has_workers, refused_by, none_named, only_memory}
use Rattle.td_words.proofs.ByTd.{rows_met, faultless, fault_met, passes_by}
use Rattle.td_words.proofs.Examples.{IsParse, examples}
use Rattle.td_words.proofs.parse.parsed.Goals as goal

pub returns-in-Err-clause-ok : goal.returns-in-Err-clause-ok
returns-in-Err-clause-ok c =
    helped_by (map string_bytes c.args.given.now) c.asked_instead.result (kind_of c.in-Err.error) c.asked_instead.ensures.ok
    (fault_met _ c.in-Ok.ensures (map string_bytes c.args.given.now) (kind_of c.in-Err.error) c.in-Err.ensures.kinds)

pub returns-in-Err-clause-workers : goal.returns-in-Err-clause-workers
returns-in-Err-clause-workers c = help_has_workers c.asked_instead.result (kind_of c.in-Err.error) c.asked_instead.ensures.ok

pub returns-in-Err-clause-err : goal.returns-in-Err-clause-err
returns-in-Err-clause-err c =
    refused_by (map string_bytes c.args.given.now) c.asked_instead.result (kind_of c.in-Err.error) c.asked_instead.ensures.err
    (fault_met _ c.in-Ok.ensures (map string_bytes c.args.given.now) (kind_of c.in-Err.error) c.in-Err.ensures.kinds)

pub returns-in-Err-clause-examples : goal.returns-in-Err-clause-examples
returns-in-Err-clause-examples c =
    examples (map string_bytes c.args.given.now) c.asked_instead.result (λ taken.
    let memory = only_memory _ _ c.asked_instead.ensures.ok c.asked_instead.ensures.err (passes_by _ c.in-Ok.ensures (map string_bytes c.args.given.now) (kind_of c.in-Err.error) c.in-Err.ensures.passes taken) in
    subst (IsParse _) (sym memory) tt)

pub returns-in-Some-clause-ok : goal.returns-in-Some-clause-ok
returns-in-Some-clause-ok c =
    let given = map string_bytes c.args.given.now in
    let found = c.in-Ok-try_get_matches_from in
    let met = rows_met _ c.in-Ok.ensures given (subcommand_rows_of found.matches) (λ simple. (found.ensures.matches simple).1) in
    asked_by given c.in-Some.job (faultless _ c.in-Ok.ensures given found.ensures.kinds) (subst (λ o. IsNamed o c.in-Some.job) met c.in-Some.ensures.some)

pub returns-in-Some-clause-workers : goal.returns-in-Some-clause-workers
returns-in-Some-clause-workers c = has_workers (subcommand_rows_of c.in-Ok-try_get_matches_from.matches) c.in-Some.job c.in-Some.ensures.some

pub returns-in-Some-clause-examples : goal.returns-in-Some-clause-examples
returns-in-Some-clause-examples c =
    let given = map string_bytes c.args.given.now in
    let found = c.in-Ok-try_get_matches_from in
    let met = rows_met _ c.in-Ok.ensures given (subcommand_rows_of found.matches) (λ simple. (found.ensures.matches simple).1) in
    examples given _ (λ taken. subst (λ o. IsNamed o c.in-Some.job) met c.in-Some.ensures.some)

pub returns-clause-err : goal.returns-clause-err
returns-clause-err c =
    let given = map string_bytes c.args.given.now in
    let found = c.in-Ok-try_get_matches_from in
    let met = rows_met _ c.in-Ok.ensures given (subcommand_rows_of found.matches) (λ simple. (found.ensures.matches simple).1) in
    inr (refl, none_named given (λ job n. c.in-None.ensures.none job (subst (λ o. IsNamed o job) (sym met) n)) (faultless _ c.in-Ok.ensures given found.ensures.kinds))

pub returns-clause-examples : goal.returns-clause-examples
returns-clause-examples c =
    let given = map string_bytes c.args.given.now in
    let found = c.in-Ok-try_get_matches_from in
    let met = rows_met _ c.in-Ok.ensures given (subcommand_rows_of found.matches) (λ simple. (found.ensures.matches simple).1) in
    examples given _ (λ taken job n. c.in-None.ensures.none job (subst (λ o. IsNamed o job) (sym met) n))
