use Rattle.std.proofs.Common.{ℕ, ◌≤◌, length, refl, sym, ap, subst, ◌∙◌}
use Rattle.std.proofs.lemmas.Result.{IfOk-from_err}
use Rattle.platform_file.specs.Tables.{platform_keys}
use Rattle.platform_file.proofs.Chains.{returned, fails_now, fails_later, reads_on, tables_same, tables_fail_same}
use Rattle.platform_file.proofs.top.platform_keys.Goals as goal

pub returns-in_err-known : goal.returns-in_err-known
unfolding platform_keys
returns-in_err-known c =
    record {
      read = returned _ _ _ c.from_residual.ensures.1
          (fails_now _ _ _ c.in_err-known.ensures);
      initiators = IfOk-from_err _ _ c.from_residual.ensures.0;
      routers = IfOk-from_err _ _ c.from_residual.ensures.0;
      memories = IfOk-from_err _ _ c.from_residual.ensures.0;
    }

pub returns-in_err-version : goal.returns-in_err-version
unfolding platform_keys
returns-in_err-version c =
    record {
      read = returned _ _ _ c.from_residual-in_err-version.ensures.1
          (fails_later _ _ _ _ c.in_ok-known.ensures
          (fails_now _ _ _ c.in_err-version.ensures));
      initiators = IfOk-from_err _ _ c.from_residual-in_err-version.ensures.0;
      routers = IfOk-from_err _ _ c.from_residual-in_err-version.ensures.0;
      memories = IfOk-from_err _ _ c.from_residual-in_err-version.ensures.0;
    }

pub returns-in_err-quantum : goal.returns-in_err-quantum
unfolding platform_keys
returns-in_err-quantum c =
    record {
      read = returned _ _ _ c.from_residual-in_err-quantum.ensures.1
          (fails_later _ _ _ _ c.in_ok-known.ensures
          (fails_later _ _ _ _ c.in_ok-version.ensures
          (fails_now _ _ _ c.in_err-quantum.ensures)));
      initiators = IfOk-from_err _ _ c.from_residual-in_err-quantum.ensures.0;
      routers = IfOk-from_err _ _ c.from_residual-in_err-quantum.ensures.0;
      memories = IfOk-from_err _ _ c.from_residual-in_err-quantum.ensures.0;
    }

pub returns-in_err-initiators : goal.returns-in_err-initiators
unfolding platform_keys
returns-in_err-initiators c =
    record {
      read = returned _ _ _ c.from_residual-in_err-initiators.ensures.1
          (fails_later _ _ _ _ c.in_ok-known.ensures
          (fails_later _ _ _ _ c.in_ok-version.ensures
          (fails_later _ _ _ _ c.in_ok-quantum.ensures
          (fails_now _ _ _ c.in_err-initiators.ensures.read))));
      initiators = IfOk-from_err _ _ c.from_residual-in_err-initiators.ensures.0;
      routers = IfOk-from_err _ _ c.from_residual-in_err-initiators.ensures.0;
      memories = IfOk-from_err _ _ c.from_residual-in_err-initiators.ensures.0;
    }

pub returns-in_err-routers : goal.returns-in_err-routers
unfolding platform_keys
returns-in_err-routers c =
    record {
      read = returned _ _ _ c.from_residual-in_err-routers.ensures.1
          (fails_later _ _ _ _ c.in_ok-known.ensures
          (fails_later _ _ _ _ c.in_ok-version.ensures
          (fails_later _ _ _ _ c.in_ok-quantum.ensures
          (fails_later _ _ _ _ c.in_ok-initiators.ensures.read
          (fails_now _ _ _ c.in_err-routers.ensures.read)))));
      initiators = IfOk-from_err _ _ c.from_residual-in_err-routers.ensures.0;
      routers = IfOk-from_err _ _ c.from_residual-in_err-routers.ensures.0;
      memories = IfOk-from_err _ _ c.from_residual-in_err-routers.ensures.0;
    }

pub returns-in_err-memories : goal.returns-in_err-memories
unfolding platform_keys
returns-in_err-memories c =
    record {
      read = returned _ _ _ c.from_residual-in_err-memories.ensures.1
          (fails_later _ _ _ _ c.in_ok-known.ensures
          (fails_later _ _ _ _ c.in_ok-version.ensures
          (fails_later _ _ _ _ c.in_ok-quantum.ensures
          (fails_later _ _ _ _ c.in_ok-initiators.ensures.read
          (fails_later _ _ _ _ c.in_ok-routers.ensures.read
          (fails_now _ _ _ c.in_err-memories.ensures.read))))));
      initiators = IfOk-from_err _ _ c.from_residual-in_err-memories.ensures.0;
      routers = IfOk-from_err _ _ c.from_residual-in_err-memories.ensures.0;
      memories = IfOk-from_err _ _ c.from_residual-in_err-memories.ensures.0;
    }

pub returns-in_err-initiators-2 : goal.returns-in_err-initiators-2
unfolding platform_keys
returns-in_err-initiators-2 c =
    record {
      read = returned _ _ _ c.from_residual-in_err-initiators-2.ensures.1
          (fails_later _ _ _ _ c.in_ok-known.ensures
          (fails_later _ _ _ _ c.in_ok-version.ensures
          (fails_later _ _ _ _ c.in_ok-quantum.ensures
          (fails_later _ _ _ _ c.in_ok-initiators.ensures.read
          (fails_later _ _ _ _ c.in_ok-routers.ensures.read
          (fails_later _ _ _ _ c.in_ok-memories.ensures.read
          (fails_now _ _ _ (tables_fail_same _ _ _ _ c.as_slice.ensures.value c.in_err-initiators-2.ensures.read))))))));
      initiators = IfOk-from_err _ _ c.from_residual-in_err-initiators-2.ensures.0;
      routers = IfOk-from_err _ _ c.from_residual-in_err-initiators-2.ensures.0;
      memories = IfOk-from_err _ _ c.from_residual-in_err-initiators-2.ensures.0;
    }

pub returns-in_err-routers-2 : goal.returns-in_err-routers-2
unfolding platform_keys
returns-in_err-routers-2 c =
    record {
      read = returned _ _ _ c.from_residual-in_err-routers-2.ensures.1
          (fails_later _ _ _ _ c.in_ok-known.ensures
          (fails_later _ _ _ _ c.in_ok-version.ensures
          (fails_later _ _ _ _ c.in_ok-quantum.ensures
          (fails_later _ _ _ _ c.in_ok-initiators.ensures.read
          (fails_later _ _ _ _ c.in_ok-routers.ensures.read
          (fails_later _ _ _ _ c.in_ok-memories.ensures.read
          (fails_later _ _ _ _ (tables_same _ _ _ _ c.as_slice.ensures.value c.in_ok-initiators-2.ensures.read)
          (fails_now _ _ _ (tables_fail_same _ _ _ _ c.as_slice-2.ensures.value c.in_err-routers-2.ensures.read)))))))));
      initiators = IfOk-from_err _ _ c.from_residual-in_err-routers-2.ensures.0;
      routers = IfOk-from_err _ _ c.from_residual-in_err-routers-2.ensures.0;
      memories = IfOk-from_err _ _ c.from_residual-in_err-routers-2.ensures.0;
    }

pub returns-in_err-memories-2 : goal.returns-in_err-memories-2
unfolding platform_keys
returns-in_err-memories-2 c =
    record {
      read = returned _ _ _ c.from_residual-in_err-memories-2.ensures.1
          (fails_later _ _ _ _ c.in_ok-known.ensures
          (fails_later _ _ _ _ c.in_ok-version.ensures
          (fails_later _ _ _ _ c.in_ok-quantum.ensures
          (fails_later _ _ _ _ c.in_ok-initiators.ensures.read
          (fails_later _ _ _ _ c.in_ok-routers.ensures.read
          (fails_later _ _ _ _ c.in_ok-memories.ensures.read
          (fails_later _ _ _ _ (tables_same _ _ _ _ c.as_slice.ensures.value c.in_ok-initiators-2.ensures.read)
          (fails_later _ _ _ _ (tables_same _ _ _ _ c.as_slice-2.ensures.value c.in_ok-routers-2.ensures.read)
          (fails_now _ _ _ (tables_fail_same _ _ _ _ c.as_slice-3.ensures.value c.in_err-memories-2.ensures.read))))))))));
      initiators = IfOk-from_err _ _ c.from_residual-in_err-memories-2.ensures.0;
      routers = IfOk-from_err _ _ c.from_residual-in_err-memories-2.ensures.0;
      memories = IfOk-from_err _ _ c.from_residual-in_err-memories-2.ensures.0;
    }

pub returns-clause-read : goal.returns-clause-read
unfolding platform_keys
returns-clause-read c =
    reads_on _ _ _ _ c.in_ok-known.ensures
    (reads_on _ _ _ _ c.in_ok-version.ensures
    (reads_on _ _ _ _ c.in_ok-quantum.ensures
    (reads_on _ _ _ _ c.in_ok-initiators.ensures.read
    (reads_on _ _ _ _ c.in_ok-routers.ensures.read
    (reads_on _ _ _ _ c.in_ok-memories.ensures.read
    (reads_on _ _ _ _ (tables_same _ _ _ _ c.as_slice.ensures.value c.in_ok-initiators-2.ensures.read)
    (reads_on _ _ _ _ (tables_same _ _ _ _ c.as_slice-2.ensures.value c.in_ok-routers-2.ensures.read)
    (reads_on _ _ _ _ (tables_same _ _ _ _ c.as_slice-3.ensures.value c.in_ok-memories-2.ensures.read) refl))))))))

pub returns-clause-initiators : goal.returns-clause-initiators
returns-clause-initiators c = subst (λ (n : ℕ). n ≤ 32) (sym (c.in_ok-initiators-2.ensures.count ∙ ap length c.as_slice.ensures.value ∙ sym c.in_ok-initiators.initiators.ok.0)) c.in_ok-initiators.ensures.limited

pub returns-clause-routers : goal.returns-clause-routers
returns-clause-routers c = subst (λ (n : ℕ). n ≤ 16) (sym (c.in_ok-routers-2.ensures.count ∙ ap length c.as_slice-2.ensures.value ∙ sym c.in_ok-routers.routers.ok.0)) c.in_ok-routers.ensures.limited

pub returns-clause-memories : goal.returns-clause-memories
returns-clause-memories c = subst (λ (n : ℕ). n ≤ 16) (sym (c.in_ok-memories-2.ensures.count ∙ ap length c.as_slice-3.ensures.value ∙ sym c.in_ok-memories.memories.ok.0)) c.in_ok-memories.ensures.limited
