mod FewLines
